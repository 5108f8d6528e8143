use Rattle.std.proofs.Common.{◌≡◌, Bool, true, false, ◌++◌, sym, ap, ◌∙◌}
use Rattle.lay_piece.specs.declared.kind.Delim.{Delim}
use Rattle.lay_stream.proofs.Calls.{last, stream_on, stream_leave}
use Rattle.lay_node.specs.tokens.Pairs.{Separation, between}
use Rattle.lay_out_tokens.specs.Fed.{empty_group, fed_gap, fed_opener, opened}
use Rattle.lay_out_tokens.specs.Separations.{seen_of}
use Rattle.lay_out_tokens.proofs.tokens.put_opener.Goals as goal

at_once : (x y : Separation) (empty : Bool) (d : Delim) → x ≡ y → empty ≡ true
    → fed_gap x ++ empty_group d ≡ fed_gap y ++ fed_opener empty d
at_once x y empty d e h =
    ap (λ (z : Separation). fed_gap z ++ empty_group d) e ∙ sym (ap (λ (b : Bool). fed_gap y ++ fed_opener b d) h)

later : (x y : Separation) (empty : Bool) (d : Delim) → x ≡ y → empty ≡ false
    → fed_gap x ++ opened d ≡ fed_gap y ++ fed_opener empty d
later x y empty d e h =
    ap (λ (z : Separation). fed_gap z ++ opened d) e ∙ sym (ap (λ (b : Bool). fed_gap y ++ fed_opener b d) h)

pub returns-in_err-put_gap : goal.returns-in_err-put_gap
returns-in_err-put_gap g c =
    last (stream_leave _ c.in_err-put_gap.ensures c.from_residual.ensures.1)
    (ap (λ (z : Separation). fed_gap z ++ fed_opener c.args.empty c.args.delim) (c.between.ensures ∙ ap (between (seen_of c.args.seen.now)) c.enclosed.ensures))

pub returns-then-empty : goal.returns-then-empty
returns-then-empty g c =
    last (stream_on c.in_ok-put_gap.ensures c.put_empty_group.ensures)
    (at_once _ _ c.args.empty c.args.delim (c.between.ensures ∙ ap (between (seen_of c.args.seen.now)) c.enclosed.ensures) c.if-empty.true)

pub returns : goal.returns
returns g c =
    last (stream_on c.in_ok-put_gap.ensures c.open_group.ensures)
    (later _ _ c.args.empty c.args.delim (c.between.ensures ∙ ap (between (seen_of c.args.seen.now)) c.enclosed.ensures) c.if-empty.false)
