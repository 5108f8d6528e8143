use Rattle.std.proofs.Common.{Err, inl, refl}
use Rattle.lay_build_types.specs.declared.built.BuildError.TheVariants.{BadText}
use Rattle.lay_build.proofs.DocLemmas.{doc_refused, doc_told}
use Rattle.lay_build.proofs.docs.checked_doc.Goals as goal

pub returns-in-Ok : goal.returns-in-Ok
returns-in-Ok c = doc_told c.args.text.now c.doc.result c.in-Ok.ensures.cases.1 c.doc.ensures

pub returns-in-Err : goal.returns-in-Err
returns-in-Err c = doc_refused c.args.text.now (Err BadText) c.in-Err.ensures.cases.0 (inl refl)
