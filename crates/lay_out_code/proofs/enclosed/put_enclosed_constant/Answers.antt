use Rattle.std.proofs.Common.{true, refl}
use Rattle.lay_code.specs.nodes.Code.{about_expr}
use Rattle.lay_paren_defs.specs.Enclosed.{part}
use Rattle.lay_stream.proofs.Calls.{last}
use Rattle.lay_out_types.proofs.Adding.{adds_on}
use Rattle.lay_out_code.proofs.EnclosedLemmas.{constant_file, may_end_constant}
use Rattle.lay_out_code.proofs.enclosed.put_enclosed_constant.Goals as goal

pub add_end-head-requires : goal.add_end-head-requires
add_end-head-requires g c =
    may_end_constant (about_expr (part true c.args.expr.now)).form
    (adds_on c.add_group-group.ensures (adds_on c.add_text-word.ensures (adds_on c.add_text-name.ensures
    (adds_on c.add_text-colon.ensures (adds_on c.add_text-unit.ensures (adds_on c.add_text-equals.ensures
    (adds_on c.add_break-lead.ensures c.add_expr-value.ensures)))))))

pub returns : goal.returns
returns g c =
    let all = adds_on c.add_group-group.ensures (adds_on c.add_text-word.ensures (adds_on c.add_text-name.ensures
    (adds_on c.add_text-colon.ensures (adds_on c.add_text-unit.ensures (adds_on c.add_text-equals.ensures
    (adds_on c.add_break-lead.ensures (adds_on c.add_expr-value.ensures (adds_on c.add_end-head.ensures
    (adds_on c.add_text-item.ensures c.add_break.ensures))))))))) in
    last (all.goes_on _ refl) (constant_file (part true c.args.expr.now))
