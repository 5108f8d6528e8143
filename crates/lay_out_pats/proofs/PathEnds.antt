-- How a path is fed after a point.
use Rattle.std.proofs.Common.{◌≡◌, Bool, true, false, [], map, refl, sym, subst}
use Rattle.lay_form.specs.Form.{Form, Part}
use Rattle.lay_form.specs.Stream.{fed, stream_of}
use Rattle.lay_node.specs.nodes.Facts.{Facts}
use Rattle.lay_node.specs.nodes.Types.{PathFacts, about_path, about_start, segments_form}
use Rattle.lay_node.specs.declared.types.Path.{Path}
use Rattle.lay_node.specs.declared.types.PathStart.{PathStart}
use Rattle.lay_node.specs.declared.types.PathStyle.TheVariants.{Code}
use Rattle.lay_node.proofs.nodes.TypesLaws.{IsGlobal, IsLocal, IsQualified, PathStartView, about_segment, path_is, start_global_is, start_local_is, start_qualified_is, start_view}
use Rattle.lay_out_types.proofs.TypeLemmas.{segments_any}

-- After a point a path is fed as anywhere.
start_any : (f : Form) → ((q : Bool) → fed q f [] ≡ stream_of f) → (x : PathStart) → PathStartView x → (q : Bool)
    → fed q (Part (about_start x).form f) [] ≡ stream_of (Part (about_start x).form f)
start_any f any _ IsLocal q =
    subst (λ (x : Facts). fed q (Part x.form f) [] ≡ stream_of (Part x.form f)) (sym start_local_is) (any q)
start_any f any _ IsGlobal true =
    subst (λ (x : Facts). fed true (Part x.form f) [] ≡ stream_of (Part x.form f)) (sym start_global_is) refl
start_any f any _ IsGlobal false = refl
start_any f any _ (IsQualified inner of) true =
    subst (λ (x : Facts). fed true (Part x.form f) [] ≡ stream_of (Part x.form f)) (sym (start_qualified_is inner of))
    refl
start_any f any _ (IsQualified inner of) false = refl

pub path_any : (p : Path) (q : Bool) → fed q (about_path p Code).form [] ≡ stream_of (about_path p Code).form
path_any p q =
    let f = segments_form Code (map about_segment p.segments) in
    subst (λ (x : PathFacts). fed q (x Code).form [] ≡ stream_of (x Code).form) (sym (path_is p))
    (start_any f (segments_any Code p.segments) p.start (start_view p.start) q)
