-- Words, simple paths, attributes and macro calls tell their units.
use Rattle.std.proofs.Common.{◌≡◌, ℕ, Bool, true, false, cond, not, ◌&&◌, ◌||◌, List, [], ◌∷◌, ◌++◌, codes, refl, sym, ap, ◌∙◌, subst, map}
use Rattle.std.specs.Str.{is_utf8}
use Rattle.std.proofs.lemmas.Bool.{and_parts, and_from}
use Rattle.lay_piece.specs.Docs.{doc_form}
use Rattle.lay_piece.specs.declared.kind.Delim.{Delim}
use Rattle.lay_piece.specs.declared.kind.Delim.TheVariants.{Paren, Bracket, Brace}
use Rattle.lay_piece.specs.declared.kind.Kind.TheVariants.{Ident, RawIdent}
use Rattle.lay_form.specs.Form.{Bit, Blank, Operator, Form, Done, Piece, Part, Docs, keyword, closer}
use Rattle.lay_form.specs.Layout.{is_block}
use Rattle.lay_form.specs.Notation.{H, when, behind_attrs}
use Rattle.lay_form.specs.Pieces.{are_pieces}
use Rattle.lay_form.specs.Spelled.{attr_opening}
use Rattle.lay_node.specs.Words.{colons, leaf_of}
use Rattle.lay_node.specs.nodes.Attr.{are_attrs, attr_form, attr_part, input_form, is_attr, is_empty, is_input, meta_path_form}
use Rattle.lay_node.specs.nodes.Call.{about_call, bang, call_form, is_group}
use Rattle.lay_node.specs.nodes.SimplePath.{are_simple_words, is_simple_path, simple_path_form, simple_words_form}
use Rattle.lay_node.specs.tokens.Lexed.{is_token_list}
use Rattle.lay_node.specs.declared.attr.Attr.{Attr}
use Rattle.lay_node.specs.declared.attr.Attr.TheVariants as attr
use Rattle.lay_node.specs.declared.attr.MetaInput.{MetaInput}
use Rattle.lay_node.specs.declared.attr.MetaInput.TheVariants as input
use Rattle.lay_node.specs.declared.attr.MetaPath.{MetaPath}
use Rattle.lay_node.specs.declared.attr.MetaPath.TheVariants as meta_path
use Rattle.lay_node.specs.declared.simple_path.SimplePath.{SimplePath}
use Rattle.lay_node.specs.declared.token.Word.{Word}
use Rattle.lay_node.specs.declared.tokens.MacroCall.{MacroCall}
use Rattle.lay_map.specs.spelling.Choice.{calm, clear, firm_bits}
use Rattle.lay_map.specs.spelling.Units as units
use Rattle.lay_map.specs.spelling.Units.{words}
use Rattle.lay_map.specs.Flow.{Still, InLine, Flow, At, flow}
use Rattle.lay_map.proofs.BodyRules.{Calms, Lined, Rest, calms_part, firm_calms, line_rest, lined}
use Rattle.lay_map.proofs.Rules.{All, Closing, Firm, Tells, all_of, each_of, ends, firm_docs, firm_fixed, firm_leaf, firm_part, fixed, kept_in, leaf, levels_two, part, tame}
use Rattle.lay_map.proofs.nodes.Tokens.{group_tells, tokens_tell}

-- ---- words

pub word : {Next : List units.Word → Type 0} {n : ℕ} {f : Form} (raw : Bool) (text : List ℕ) → Closing Next n f → Closing Next n (leaf_of raw text f)
word true text t = leaf RawIdent text refl t
word false text t = leaf Ident text refl t

pub firm_word : (f : Form) (raw : Bool) (text : List ℕ) → Firm (leaf_of raw text f)
firm_word f true text = firm_leaf RawIdent text refl
firm_word f false text = firm_leaf Ident text refl

-- pieces that are there or not
pub whenever : {Next : List units.Word → Type 0} {n : ℕ} {f : Form} (there : Bool) (bits : List Bit) → tame bits ≡ true → Closing Next n f
    → Closing Next n (when there bits f)
whenever true bits h t = fixed bits h t
whenever false bits h t = t

pub firm_when : {f : Form} (there : Bool) (bits : List Bit) → firm_bits bits false ≡ true → Firm f → Firm (when there bits f)
firm_when true bits h t = firm_fixed bits h
firm_when false bits h t = t

-- ---- simple paths

simple_words_tell : {Next : List units.Word → Type 0} (ws : List Word) → Tells Next (simple_words_form ws Done)
simple_words_tell [] = ends
simple_words_tell (w ∷ []) = word w.raw w.text ends
simple_words_tell (w ∷ v ∷ more) = word w.raw w.text (fixed colons refl (simple_words_tell (v ∷ more)))

simple_words_firm : (ws : List Word) → are_simple_words ws ≡ true → Firm (simple_words_form ws Done)
simple_words_firm [] h = absurd (cc h)
simple_words_firm (w ∷ []) h = firm_word _ w.raw w.text
simple_words_firm (w ∷ v ∷ more) h = firm_word _ w.raw w.text

pub simple_path_tells : {Next : List units.Word → Type 0} (path : SimplePath) → Tells Next (simple_path_form path)
simple_path_tells path = whenever path.global colons refl (simple_words_tell path.words)

pub simple_path_firm : (path : SimplePath) → is_simple_path path ≡ true → Firm (simple_path_form path)
simple_path_firm path h = firm_when path.global colons refl (simple_words_firm path.words h)

-- ---- macro calls

bang_tells : {Next : List units.Word → Type 0} {f : Form} (d : Delim) → Tells Next f → Tells Next (Piece (bang d) f)
bang_tells Paren t = fixed (bang Paren) refl t
bang_tells Bracket t = fixed (bang Bracket) refl t
bang_tells Brace t = fixed (bang Brace) refl t

pub call_tells : {Next : List units.Word → Type 0} (call : MacroCall) → (about_call call).good ≡ true → Tells Next (call_form call)
call_tells call h =
    part (simple_path_tells call.path)
    (bang_tells call.tokens.delim (group_tells call.tokens (and_parts (is_simple_path call.path) (is_group call.tokens) h).1 ends))

pub call_firm : (call : MacroCall) → (about_call call).good ≡ true → Firm (call_form call)
call_firm call h = firm_part (simple_path_firm call.path (and_parts (is_simple_path call.path) (is_group call.tokens) h).0)

-- ---- attributes

meta_path_tells : {Next : List units.Word → Type 0} (path : MetaPath) → Tells Next (meta_path_form path)
meta_path_tells (meta_path.Path path) = simple_path_tells path
meta_path_tells meta_path.Unsafe = fixed (keyword (codes "unsafe") ∷ []) refl ends

input_tells : {Next : List units.Word → Type 0} {f : Form} (given : MetaInput) → is_input given ≡ true → Tells Next f → Tells Next (input_form given f)
input_tells input.Bare h t = t
input_tells (input.Group group) h t = group_tells group h t
input_tells (input.Value tokens) h t =
    fixed (Blank ∷ Operator (codes "=") ∷ Blank ∷ []) refl (part (tokens_tell tokens (and_parts (not (is_empty tokens)) (is_token_list tokens) h).1) t)

opening_tells : {Next : List units.Word → Type 0} {f : Form} (inner : Bool) → Tells Next f → Tells Next (Piece (attr_opening inner) f)
opening_tells true t = fixed (attr_opening true) refl t
opening_tells false t = fixed (attr_opening false) refl t

opening_firm : {f : Form} (inner : Bool) → Firm (Piece (attr_opening inner) f)
opening_firm true = firm_fixed (attr_opening true) refl
opening_firm false = firm_fixed (attr_opening false) refl

meta_tells : {Next : List units.Word → Type 0} (inner : Bool) (path : MetaPath) (given : MetaInput) → is_input given ≡ true
    → Tells Next (attr_form (attr.Meta inner path given))
meta_tells inner path given h = opening_tells inner (part (meta_path_tells path) (input_tells given h (fixed (closer Bracket ∷ []) refl ends)))

doc_lined : (inner : Bool) (text : List ℕ) → Lined (Docs inner text Done)
doc_lined inner text = record {
  go = λ w. record {
    flows = λ a. by a (is_block (doc_form inner text)) refl;
    clears = λ ws b. refl;
    levels = λ x. record { shut_is = refl; leaves = refl };
  };
}
  where
    by : (a : Bool) (d : Bool) → is_block (doc_form inner text) ≡ d → Rest a (flow (At Still a) (Docs inner text Done))
    by a true e = record { wait = Still; is = ap (λ (x : Bool). At (cond x Still InLine) a) e; rests = refl }
    by a false e = record { wait = InLine; is = ap (λ (x : Bool). At (cond x Still InLine) a) e; rests = refl }

meta_input : (flag inner : Bool) (path : MetaPath) (given : MetaInput) → is_attr inner (attr.Meta flag path given) ≡ true → is_input given ≡ true
meta_input flag inner path given h = (and_parts _ (is_input given) (and_parts _ _ h).0).1

pub attr_lined : (inner : Bool) (x : Attr) → is_attr inner x ≡ true → Lined (attr_form x)
attr_lined inner (attr.Doc flag text) h = doc_lined flag text
attr_lined inner (attr.Meta flag path given) h = lined (meta_tells flag path given (meta_input flag inner path given h))

pub attr_firm : (x : Attr) → Firm (attr_form x)
attr_firm (attr.Doc flag text) = firm_docs flag text
attr_firm (attr.Meta flag path given) = opening_firm flag

pub attrs_lined : (inner : Bool) (attrs : List Attr) → are_attrs inner attrs ≡ true → All Lined (map attr_form attrs)
attrs_lined inner attrs h = each_of Lined attr_form (is_attr inner) (attr_lined inner) attrs h

pub attrs_firm : (attrs : List Attr) → All Firm (map attr_form attrs)
attrs_firm attrs = all_of Firm attr_form attr_firm attrs

-- ---- after attributes

behind_lined : {Next : List units.Word → Type 0} {m : ℕ} {e f : Form} → Lined e → Closing Next m f → Closing Next m (Part e (H f))
behind_lined {Next} {m} {e} {f} l t = record {
  go = λ w.
      let p = and_parts (are_pieces e) (are_pieces f) w in
      let u = l.go p.0 in
      let v = t.go p.1 in
      record {
        flows = λ a. ap (λ (s : Flow). flow s f) (line_rest false a (flow (At Still a) e) (u.flows a)) ∙ v.flows a;
        clears = λ ws b n. and_from (clear e (words f ++ ws) (calm f b)) (clear f ws b) (u.clears (words f ++ ws) (calm f b)) (v.clears ws b n);
        levels = λ x. levels_two (words e) (words f) (u.levels (kept_in m x)) (v.levels x);
      };
}

pub attrs_then : {Next : List units.Word → Type 0} {n : ℕ} {f : Form} (es : List Form) → All Lined es → Closing Next n f → Closing Next n (behind_attrs es f)
attrs_then [] l t = t
attrs_then (e ∷ es) l t = behind_lined l.0 (attrs_then es l.1 t)

pub attrs_firm_then : {f : Form} (es : List Form) → All Firm es → Firm f → Firm (behind_attrs es f)
attrs_firm_then [] l t = t
attrs_firm_then (e ∷ es) l t = firm_part l.0

pub attrs_calm_then : {f : Form} (es : List Form) → All Firm es → Calms f → Calms (behind_attrs es f)
attrs_calm_then [] l t = t
attrs_calm_then (e ∷ es) l t = calms_part (firm_calms l.0)

-- ---- attributes within other parts

-- documentation on a line has a newline after it, and else a blank
doc_part : {Next : List units.Word → Type 0} {f : Form} (own : Bool) (text : List ℕ) → Tells Next f → Tells Next (attr_part own (attr.Doc false text) f)
doc_part {Next} {f} own text t = by (is_block (doc_form false text)) refl own
  where
    line : Tells Next (Part (Docs false text Done) (H f))
    line = behind_lined (doc_lined false text) t

    block : is_block (doc_form false text) ≡ true → Tells Next (Part (Docs false text Done) (Piece (Blank ∷ []) f))
    block e = record {
      go = λ w.
          let v = t.go (and_parts (is_utf8 text && true) (are_pieces f) w).1 in
          record {
            flows = λ a. ap (λ (x : Bool). flow (At (cond x Still InLine) a) (Piece (Blank ∷ []) f)) e ∙ v.flows a;
            clears = λ ws b n. v.clears ws b n;
            levels = λ x. let l = v.levels x in record { shut_is = l.shut_is; leaves = l.leaves };
          };
    }

    by : (d : Bool) → is_block (doc_form false text) ≡ d → (own : Bool) → Tells Next (Part (Docs false text Done) (cond (own || not (is_block (doc_form false text))) (H f) (Piece (Blank ∷ []) f)))
    by d e true = line
    by true e false = subst (λ (x : Bool). Tells Next (Part (Docs false text Done) (cond (not x) (H f) (Piece (Blank ∷ []) f)))) (sym e) (block e)
    by false e false = subst (λ (x : Bool). Tells Next (Part (Docs false text Done) (cond (not x) (H f) (Piece (Blank ∷ []) f)))) (sym e) line

meta_part : {Next : List units.Word → Type 0} {f : Form} (own : Bool) (path : MetaPath) (given : MetaInput) → is_input given ≡ true → Tells Next f
    → Tells Next (attr_part own (attr.Meta false path given) f)
meta_part true path given h t = behind_lined (lined (meta_tells false path given h)) t
meta_part false path given h t = part (meta_tells false path given h) (fixed (Blank ∷ []) refl t)

-- an outer attribute, and what follows it
pub attr_then : {Next : List units.Word → Type 0} {f : Form} (own : Bool) (x : Attr) → is_attr false x ≡ true → Tells Next f → Tells Next (attr_part own x f)
attr_then own (attr.Doc false text) h t = doc_part own text t
attr_then own (attr.Doc true text) h t = absurd (cc h)
attr_then own (attr.Meta false path given) h t = meta_part own path given (meta_input false false path given h) t
attr_then own (attr.Meta true path given) h t = absurd (cc h)
