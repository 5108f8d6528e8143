-- What paths need: the same in code and in what names a kind of things.
use Rattle.std.proofs.Common.{◌≡◌, ◌∙◌, List, [], ◌∷◌, map, max, refl, sym, ap, arith}
use Rattle.lay_form.specs.Depth.{least_depth}
use Rattle.lay_form.specs.Form.{Form, Done, Part, Piece}
use Rattle.lay_node.specs.Words.{colons}
use Rattle.lay_node.specs.nodes.Types.{PathFacts, about_args, about_path, about_start, in_style, segment_form, segments_form}
use Rattle.lay_node.specs.declared.token.Word.{Word}
use Rattle.lay_node.specs.declared.types.Args.{Args}
use Rattle.lay_node.specs.declared.types.Path.{Path}
use Rattle.lay_node.specs.declared.types.PathStyle.{PathStyle}
use Rattle.lay_node.specs.declared.types.PathStyle.TheVariants.{Code, Kind}
use Rattle.lay_node.proofs.nodes.TypesLaws as laws
use Rattle.lay_node.proofs.nodes.TypesLaws.{ArgsView, IsNone, IsAngle, IsRound, about_segment}
use Rattle.lay_depth.specs.nodes.Depths.{greatest, segment_args}
use Rattle.lay_depth.proofs.nodes_lemmas.Forms.{leaf_is}

code_is : (args : Args) → ArgsView args → least_depth (about_args args).code.form ≡ least_depth (about_args args).kind.form
code_is _ IsNone = rw laws.args_none_is refl
code_is _ (IsAngle args) = rw (laws.args_angle_is args) refl
code_is _ (IsRound inputs output) = rw (laws.args_round_is inputs output) refl

args_are : (args : Args) (style : PathStyle) → least_depth (in_style style (about_args args)).form ≡ least_depth (about_args args).kind.form
args_are args Code = code_is args (laws.args_view args)
args_are args Kind = refl

segment_is : (style : PathStyle) (s : Word × Args) (f : Form)
    → least_depth (segment_form style (about_segment s) f) ≡ max (least_depth (segment_args s)) (least_depth f)
segment_is style s f =
    leaf_is s.0.raw s.0.text (Part (in_style style (about_args s.1)).form f) ∙ (let m = args_are s.1 style in omega (arith, m))

pub segments_are : (style : PathStyle) (segments : List (Word × Args))
    → least_depth (segments_form style (map about_segment segments)) ≡ greatest (map segment_args segments)
segments_are style [] = refl
segments_are style (s ∷ []) = segment_is style s Done
segments_are style (s ∷ t ∷ more) =
    segment_is style s (Piece colons (segments_form style (map about_segment (t ∷ more))))
    ∙ ap (max (least_depth (segment_args s))) (segments_are style (t ∷ more))

pub path_is : (p : Path) (style : PathStyle)
    → least_depth (about_path p style).form ≡ max (least_depth (about_start p.start).form) (greatest (map segment_args p.segments))
path_is p style =
    ap (λ (f : PathFacts). least_depth (f style).form) (laws.path_is p)
    ∙ ap (max (least_depth (about_start p.start).form)) (segments_are style p.segments)

pub style_is : (p : Path) (style : PathStyle) → least_depth (about_path p style).form ≡ least_depth (about_path p Kind).form
style_is p style = path_is p style ∙ sym (path_is p Kind)
