-- Token lists as parts of other forms, and groups by themselves.
use Rattle.std.proofs.Common.{◌≡◌, List, Bool, true, false, sym, subst, Option}
use Rattle.lay_piece.specs.declared.kind.Delim.{Delim}
use Rattle.lay_form.specs.Form.{Bit, Form, Piece, Part}
use Rattle.lay_form.specs.Layout.{bits_end_in_point, led}
use Rattle.lay_node.specs.declared.token.Listed.{Listed}
use Rattle.lay_node.specs.declared.tokens.Group.{Group}
use Rattle.lay_node.specs.nodes.Call.{is_group}
use Rattle.lay_node.specs.tokens.Lexed.{is_token_list}
use Rattle.lay_node.specs.tokens.Listing.{in_groups}
use Rattle.lay_node.specs.tokens.Lists.{form_of_grouping, token_list, group_form, ends_in_line}
use Rattle.lay_node.specs.tokens.Pairs.{at_start}
use Rattle.lay_reparse.proofs.borders.Border.{Border, beyond}
use Rattle.lay_reparse.proofs.borders.Move.{under}
use Rattle.lay_reparse.proofs.forms.Opened.{bits_open}
use Rattle.lay_reparse.proofs.forms.Passes.{Passes, plain}
use Rattle.lay_reparse.proofs.forms.Rules.{On, simple, simple_led}
use Rattle.lay_reparse.proofs.tokens.Lexed.{lex_ok}
use Rattle.lay_reparse.proofs.tokens.Rows.{opens_at, enclosed_passes, all_passes, list_end, list_passes}

-- a token list after a piece that ends in no point, and what follows the list
pub listed : {o : Option (List Delim)} {p : List Bit} {f : Form} {b c : Border} (ts : List Listed)
    → is_token_list ts ≡ true → simple b p ≡ true → ((v : Bool) → bits_end_in_point v p ≡ false)
    → under (beyond b p) plain ≡ true → On (bits_open o p) (list_end (ends_in_line ts)) f c
    → On o b (Piece p (Part (token_list ts) f)) c
listed {o} {p} {f} {b} {c} ts l h e u k = record {
  go = λ v.
      let q = simple_led v b p h in
      let behind : Passes (bits_open o p) false (Part (token_list ts) f) (beyond b p) c =
      (plain, list_end (ends_in_line ts), u, list_passes ts (lex_ok ts l), k.go _) in (
        q.0,
        subst (λ w. Passes (bits_open o p) w (Part (token_list ts) f) (beyond b (led v p)) c) (sym (e v))
            (subst (λ z. Passes (bits_open o p) false (Part (token_list ts) f) (beyond b z) c) q.1 behind),
      );
}

-- a group, and what follows it
pub grouped : {o : Option (List Delim)} {f : Form} {b c : Border} (g : Group) → is_group g ≡ true → opens_at b g.delim
    → On o plain f c → On o b (group_form g f) c
grouped {o} {f} {b} {c} g l h k = record {
  go = λ v. enclosed_passes o b v g.delim (in_groups g.tokens) (ends_in_line g.tokens)
      (form_of_grouping (at_start 0) (in_groups g.tokens)) f c h (all_passes g.tokens (lex_ok g.tokens l)) (k.go false);
}
