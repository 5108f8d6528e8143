-- Structs, unions and enumerations: what is spelled is read, where what is one level deeper is read.
use Rattle.std.proofs.Common.{◌≡◌, ℕ, max, Bool, true, false, ◌&&◌, List, [], ◌∷◌, map, codes, inl, inr, refl, sym, subst, ◌∙◌, arith}
use Rattle.std.specs.List.{list_all}
use Rattle.std.proofs.lemmas.Bool.{and_parts}
use Rattle.lay_piece.specs.Forms.{opening}
use Rattle.lay_piece.specs.declared.kind.Delim.TheVariants.{Paren, Brace}
use Rattle.lay_piece.specs.declared.kind.Kind.TheVariants.{Ident, Opener, Punct}
use Rattle.lay_form.specs.Form.{Fixed, Form, Done, Part, semicolon}
use Rattle.lay_form.specs.Notation.{piece, where_body}
use Rattle.lay_form.specs.Spelled.{IsOne, Spells}
use Rattle.lay_node.specs.Ahead.{Tokens, first, is_mark, opens}
use Rattle.lay_node.specs.Words.{is_name}
use Rattle.lay_node.specs.nodes.Fields.{are_fields, is_field, is_variant, named_form, tuple_form}
use Rattle.lay_node.specs.nodes.Generics.{is_generics}
use Rattle.lay_node.specs.nodes.Heads.{about_enum, about_struct, about_union, headed, leads}
use Rattle.lay_node.specs.nodes.Where.{are_predicates, predicate_form, wheres_before_body, wheres_before_semicolon}
use Rattle.lay_node.specs.reader.Fields.{named_fields}
use Rattle.lay_node.specs.reader.Heads.{enum, struct, union}
use Rattle.lay_node.specs.reader.Types.{Within}
use Rattle.lay_node.specs.reader.Where.{wheres}
use Rattle.lay_node.specs.declared.fields.Field.{Field}
use Rattle.lay_node.specs.declared.fields.Fields.{Fields}
use Rattle.lay_node.specs.declared.fields.Fields.TheVariants as fields
use Rattle.lay_node.specs.declared.generics.Generics.{Generics}
use Rattle.lay_node.specs.declared.generics.Wheres.{Wheres}
use Rattle.lay_node.specs.declared.heads.Enum.{Enum}
use Rattle.lay_node.specs.declared.heads.Union.{Union}
use Rattle.lay_node.specs.declared.token.Name.{Name}
use Rattle.lay_node.proofs.Fronts.{mark_passed, one_front}
use Rattle.lay_node.proofs.Parts.{part_alone, piece_bit}
use Rattle.lay_node.proofs.reader.Exact.{IsRead}
use Rattle.lay_node.proofs.reader.FieldsComplete.{named_fields_read, tuple_fields_read}
use Rattle.lay_node.proofs.reader.HeadParts.{body_wheres, brace_ends_wheres, called_alone, called_there, semicolon_ends_wheres, wheres_front, wheres_there}
use Rattle.lay_node.proofs.reader.HeadsLevel.{CompleteHead}
use Rattle.lay_node.proofs.reader.TypesComplete.{Reads}
use Rattle.lay_node.proofs.reader.VariantsComplete.{variants_read}

-- ---- what follows a name and its generic parameters

-- Neither generic parameters nor fields without names begin there.
record Behind (ts : Tokens) : Type 0 where
  less : first (is_mark (codes "<")) ts ≡ false
  paren : first (opens Paren) ts ≡ false

where_behind : (ts rest : Tokens) → IsOne Ident (codes "where") ts rest → Behind ts
where_behind ts rest o = let f = (one_front Ident (codes "where") ts rest o).1 in record { less = rw f refl; paren = rw f refl }

semicolon_behind : (ts rest : Tokens) → IsOne Punct (codes ";") ts rest → Behind ts
semicolon_behind ts rest o = let f = (one_front Punct (codes ";") ts rest o).1 in record { less = rw f refl; paren = rw f refl }

brace_behind : (ts rest : Tokens) → IsOne (Opener Brace) (opening Brace ∷ []) ts rest → Behind ts
brace_behind ts rest o = let f = (one_front (Opener Brace) (opening Brace ∷ []) ts rest o).1 in record { less = rw f refl; paren = rw f refl }

wheres_behind : (fs : List Form) (depth : ℕ) (ts rest : Tokens) → Spells (where_body fs) depth ts rest → Behind rest → Behind ts
wheres_behind fs depth ts rest s b = elim (wheres_front fs depth ts rest s) [
  | inl e ↦ subst Behind (sym e) b
  | inr w ↦ where_behind ts w.0 w.1
]

module _ (depth : ℕ) (inner : Within) (reads : Reads depth inner) where
  -- a `;`, and a where clause before it
  record Ended (w : Wheres) (ts rest : Tokens) : Type 0 where
    mid : Tokens
    mark : IsOne Punct (codes ";") mid rest
    last : Bool
    read : IsRead depth (wheres inner) (w, last) ts mid
    behind : Behind ts

  ended : (w : Wheres) (ts rest : Tokens) → Spells (Part (wheres_before_semicolon w) (piece semicolon)) depth ts rest → are_predicates w ≡ true → Ended w ts rest
  ended w ts rest s g =
      let mark : IsOne Punct (codes ";") s.0 rest = piece_bit (Fixed Punct (codes ";")) depth s.0 rest s.2 in
      let body = body_wheres (map predicate_form w.predicates) depth ts s.0 s.1 in
      let r = wheres_there depth inner reads w ts s.0 body g (semicolon_ends_wheres s.0 rest mark) in
      record {
        mid = s.0;
        mark = mark;
        last = r.0;
        read = r.1;
        behind = wheres_behind (map predicate_form w.predicates) depth ts s.0 body (semicolon_behind s.0 rest mark);
      }

  -- fields in braces, and a where clause before them
  record Braced (w : Wheres) (xs : List Field) (ts rest : Tokens) : Type 0 where
    mid : Tokens
    fields : IsRead depth (named_fields inner) xs mid rest
    inside : Tokens
    brace : IsOne (Opener Brace) (opening Brace ∷ []) mid inside
    last : Bool
    read : IsRead depth (wheres inner) (w, last) ts mid
    behind : Behind ts

  braced : (w : Wheres) (xs : List Field) (ts rest : Tokens) → Spells (Part (wheres_before_body w) (named_form (leads w) xs)) depth ts rest
      → are_predicates w ≡ true → list_all is_field xs ≡ true → Braced w xs ts rest
  braced w xs ts rest s g h =
      let f = named_fields_read depth inner reads (leads w) xs s.0 rest s.2 h in
      let o = f.1 in
      let r = wheres_there depth inner reads w ts s.0 s.1 g (brace_ends_wheres s.0 o.0 o.1) in
      record {
        mid = s.0;
        fields = f.0;
        inside = o.0;
        brace = o.1;
        last = r.0;
        read = r.1;
        behind = wheres_behind (map predicate_form w.predicates) depth ts s.0 s.1 (brace_behind s.0 o.0 o.1);
      }

  -- ---- structs

  abbrev StructForm : Name → Generics → Fields → Wheres → Form
  StructForm n g fs w = (headed (about_struct (record { name = n; generics = g; fields = fs; wheres = w }))).form

  abbrev StructRead : Name → Generics → Fields → Wheres → Tokens → Tokens → Type 0
  StructRead n g fs w ts rest = IsRead depth (struct inner) (record { name = n; generics = g; fields = fs; wheres = w }) ts rest

  struct_read : (n : Name) (g : Generics) (fs : Fields) (w : Wheres) (ts rest : Tokens) → Spells (StructForm n g fs w) depth ts rest
      → is_name n.raw n.text ≡ true → is_generics g ≡ true → are_fields fs ≡ true → are_predicates w ≡ true → StructRead n g fs w ts rest
  unfolding struct
  struct_read n g (fields.Tuple xs) w ts rest s named params good clause =
      let mid = s.0 in
      let f : Form = Part (tuple_form xs) Done in
      let opened : (us : Tokens) → Spells f depth us mid → (inside : Tokens) × IsOne (Opener Paren) (opening Paren ∷ []) us inside =
      λ us t. (tuple_fields_read depth inner reads xs us mid (part_alone (tuple_form xs) depth us mid t) good).1 in
      let c = called_there depth inner reads (codes "struct") n g f ts mid s.1 named params
      (λ us t. let o = opened us t in rw (one_front (Opener Paren) (opening Paren ∷ []) us o.0 o.1).1 refl) in
      let at = c.0 in
      let o = opened at c.2 in
      let there : first (opens Paren) at ≡ true = rw (one_front (Opener Paren) (opening Paren ∷ []) at o.0 o.1).1 refl in
      let r = (tuple_fields_read depth inner reads xs at mid (part_alone (tuple_form xs) depth at mid c.2) good).0 in
      let e = ended w mid rest s.2 clause in
      let head = c.1 in
      let before = e.read in
      (max head.0 (max r.0 before.0), omega (arith, head.1, r.1, before.1), rw (head.2, there, r.2, before.2, mark_passed (codes ";") e.mid rest e.mark) refl)
  struct_read n g (fields.Named xs) w ts rest s named params good clause =
      let mid = s.0 in
      let e = braced w xs mid rest s.2 clause good in
      let head = called_alone depth inner reads (codes "struct") n g (Part Done Done) ts mid s.1 named params (λ us t. t.1 ∙ t.2) e.behind.less in
      let there : first (opens Brace) e.mid ≡ true = rw (one_front (Opener Brace) (opening Brace ∷ []) e.mid e.inside e.brace).1 refl in
      let before = e.read in
      let r = e.fields in
      (max head.0 (max before.0 r.0), omega (arith, head.1, before.1, r.1), rw (head.2, e.behind.paren, before.2, there, r.2) refl)
  struct_read n g fields.Unit w ts rest s named params good clause =
      let mid = s.0 in
      let e = ended w mid rest s.2 clause in
      let head = called_alone depth inner reads (codes "struct") n g (Part Done Done) ts mid s.1 named params (λ us t. t.1 ∙ t.2) e.behind.less in
      let none : first (opens Brace) e.mid ≡ false = rw (one_front Punct (codes ";") e.mid rest e.mark).1 refl in
      let before = e.read in
      (max head.0 before.0, omega (arith, head.1, before.1), rw (head.2, e.behind.paren, before.2, none, mark_passed (codes ";") e.mid rest e.mark) refl)

  -- ---- unions and enumerations

  union_read : (x : Union) (ts rest : Tokens) → Spells (headed (about_union x)).form depth ts rest → (about_union x).good ≡ true → IsRead depth (union inner) x ts rest
  unfolding union
  union_read x ts rest s good =
      let named = is_name x.name.raw x.name.text in
      let a = and_parts (named && is_generics x.generics && are_predicates x.wheres) (list_all is_field x.fields) good in
      let b = and_parts (named && is_generics x.generics) (are_predicates x.wheres) a.0 in
      let d = and_parts named (is_generics x.generics) b.0 in
      let mid = s.0 in
      let e = braced x.wheres x.fields mid rest s.2 b.1 a.1 in
      let head = called_alone depth inner reads (codes "union") x.name x.generics Done ts mid s.1 d.0 d.1 (λ us t. t) e.behind.less in
      let before = e.read in
      let r = e.fields in
      (max head.0 (max before.0 r.0), omega (arith, head.1, before.1, r.1), rw (head.2, before.2, r.2) refl)

  enum_read : (x : Enum) (ts rest : Tokens) → Spells (headed (about_enum x)).form depth ts rest → (about_enum x).good ≡ true → IsRead depth (enum inner) x ts rest
  unfolding enum
  enum_read x ts rest s good =
      let named = is_name x.name.raw x.name.text in
      let a = and_parts (named && is_generics x.generics && are_predicates x.wheres) (list_all is_variant x.variants) good in
      let b = and_parts (named && is_generics x.generics) (are_predicates x.wheres) a.0 in
      let d = and_parts named (is_generics x.generics) b.0 in
      let mid = s.0 in
      let tail = s.2 in
      let at = tail.0 in
      let vs = variants_read depth inner reads (leads x.wheres) x.variants at rest tail.2 a.1 in
      let o = vs.1 in
      let w = wheres_there depth inner reads x.wheres mid at tail.1 b.1 (brace_ends_wheres at o.0 o.1) in
      let behind = wheres_behind (map predicate_form x.wheres.predicates) depth mid at tail.1 (brace_behind at o.0 o.1) in
      let head = called_alone depth inner reads (codes "enum") x.name x.generics Done ts mid s.1 d.0 d.1 (λ us t. t) behind.less in
      let before = w.1 in
      let r = vs.0 in
      (max head.0 (max before.0 r.0), omega (arith, head.1, before.1, r.1), rw (head.2, before.2, r.2) refl)

pub struct_complete : CompleteHead (λ x. headed (about_struct x)) (λ w ts. struct w.kinds ts)
struct_complete depth inner reads x ts rest s good f =
    let named = is_name x.name.raw x.name.text in
    let a = and_parts (named && is_generics x.generics && are_fields x.fields) (are_predicates x.wheres) good in
    let b = and_parts (named && is_generics x.generics) (are_fields x.fields) a.0 in
    let d = and_parts named (is_generics x.generics) b.0 in
    struct_read depth inner.kinds reads.kinds x.name x.generics x.fields x.wheres ts rest s d.0 d.1 b.1 a.1

pub union_complete : CompleteHead (λ x. headed (about_union x)) (λ w ts. union w.kinds ts)
union_complete depth inner reads x ts rest s good f = union_read depth inner.kinds reads.kinds x ts rest s good

pub enum_complete : CompleteHead (λ x. headed (about_enum x)) (λ w ts. enum w.kinds ts)
enum_complete depth inner reads x ts rest s good f = enum_read depth inner.kinds reads.kinds x ts rest s good
