use Rattle.lay_out_types.proofs.Adding.{adds, adds_on}
use Rattle.lay_out_heads.proofs.FieldLemmas.{discriminant_is}
use Rattle.lay_out_heads.proofs.fields.add_discriminant.Goals as goal

pub returns-in-Some : goal.returns-in-Some
returns-in-Some g c =
    adds (adds_on c.add_text-equals.ensures c.add_tokens.ensures) (discriminant_is _ c.in-Some.tokens c.in-Some.is)
