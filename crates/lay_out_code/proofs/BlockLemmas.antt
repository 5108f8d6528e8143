-- The streams of blocks and of statements.
use Rattle.std.proofs.Common.{◌≡◌, if◌then◌else◌, ◌<◌, ℕ, suc, Bool, true, false, cond, List, [], ◌∷◌, ◌++◌, map, codes, Option, option_map, Some, None, refl, sym, ap, ◌∙◌, append_assoc, append-nil, OnOk, Result}
use Rattle.lay_layout.specs.Machine.{opened}
use Rattle.lay_layout.specs.declared.layout.Break.{Break}
use Rattle.lay_layout.specs.declared.layout.Tok.{Tok}
use Rattle.lay_layout.specs.declared.layout.Tok.TheVariants as tok
use Rattle.lay_stream.specs.Fed.{Meanings}
use Rattle.lay_form.specs.Form.{Blank, Form, Done, Part, Piece, Soft, keyword, semicolon}
use Rattle.lay_form.specs.Layout.{break_of}
use Rattle.lay_form.specs.Notation.{H, behind_attrs, body, each, piece, soft}
use Rattle.lay_form.specs.Stream.{fed, stream_of}
use Rattle.lay_node.specs.nodes.Attr.{attr_form}
use Rattle.lay_node.specs.nodes.Fields.{blank_if}
use Rattle.lay_node.specs.nodes.Functions.{self_type}
use Rattle.lay_node.specs.nodes.Heads.{leads}
use Rattle.lay_node.specs.nodes.Patterns.{about_pat}
use Rattle.lay_node.specs.nodes.Types.{about_type}
use Rattle.lay_node.specs.nodes.Where.{wheres_before_body, wheres_before_semicolon}
use Rattle.lay_node.specs.declared.attr.Attr.{Attr}
use Rattle.lay_node.specs.declared.generics.Wheres.{Wheres}
use Rattle.lay_node.specs.declared.patterns.Pat.{Pat}
use Rattle.lay_node.specs.declared.types.Ty.{Ty}
use Rattle.lay_code.specs.nodes.Blocks.{attrs_before, block_form, dropped_if, else_form, ended_form, is_plain, is_single, let_type, soft_form, stmt_form}
use Rattle.lay_code.specs.nodes.Code.{about_block, about_expr, about_stmt, form_of_item}
use Rattle.lay_code.specs.nodes.CodeFacts.{BlockFacts, StmtFacts}
use Rattle.lay_code.specs.nodes.Exprs.{value_form}
use Rattle.lay_code.specs.nodes.Item.{function_tail}
use Rattle.lay_code.specs.declared.blocks.Block.{Block}
use Rattle.lay_code.specs.declared.blocks.Stmt.{Stmt}
use Rattle.lay_code.specs.declared.blocks.Stmt.TheVariants as stmt
use Rattle.lay_code.specs.declared.exprs.Expr.{Expr}
use Rattle.lay_code.specs.declared.item.Item.{Item}
use Rattle.lay_code.proofs.nodes.BlocksLaws.{block_is, stmt_expr_is, stmt_item_is, stmt_let_is}
use Rattle.lay_out_tokens.proofs.StreamParts.{fed_more}
use Rattle.lay_out_types.specs.Rows.{further, row}
use Rattle.lay_out_pats.proofs.FieldLemmas.{lines_more}
use Rattle.lay_out_types.specs.Calls.{Adds}
use Rattle.lay_out_types.proofs.Adding.{level_behind, on_ok}
use Rattle.lay_out_types.proofs.FormRows.{each_is, level_further, one_open, part_more}
use Rattle.lay_out_heads.proofs.ItemLemmas.{steady_end}
use Rattle.lay_out_heads.specs.FieldRows.{body_closed, body_opened, line}
use Rattle.lay_out_heads.proofs.Steady.{Steady, steady_part, steady_semicolon, steady_wheres_body}
use Rattle.lay_out_exprs.specs.Blocks.{soft_closed}
use Rattle.lay_out_code.specs.Parts.{no_forms, stmt_told}
use Rattle.lay_out_code.proofs.OutLemmas.{each_lines, further_joined, steady_value}

-- ---- bodies

-- What may stand in braces without being laid out changes nothing.
pub skips : (lead plain : Bool) (w : Form) (ws : List Form)
    → stream_of (body (blank_if lead) (dropped_if plain) (w ∷ ws)) ≡ body_opened lead ++ (further line (w ∷ ws) ++ body_closed)
skips true true w ws = ap (λ (s : List Tok). body_opened true ++ s) (each_is H line (λ q f more. refl) (w ∷ ws) false body_closed)
skips true false w ws = ap (λ (s : List Tok). body_opened true ++ s) (each_is H line (λ q f more. refl) (w ∷ ws) false body_closed)
skips false true w ws = ap (λ (s : List Tok). body_opened false ++ s) (each_is H line (λ q f more. refl) (w ∷ ws) false body_closed)
skips false false w ws = ap (λ (s : List Tok). body_opened false ++ s) (each_is H line (λ q f more. refl) (w ∷ ws) false body_closed)

-- Bodies that have the same lines have the same stream.
pub same_lines : (lead plain other : Bool) (es fs : List Form) → no_forms es ≡ no_forms fs → further line es ≡ further line fs
    → stream_of (body (blank_if lead) (dropped_if plain) es) ≡ stream_of (body (blank_if lead) (dropped_if other) fs)
same_lines true true true [] [] e same = refl
same_lines true true false [] [] e same = refl
same_lines true false true [] [] e same = refl
same_lines true false false [] [] e same = refl
same_lines false true true [] [] e same = refl
same_lines false true false [] [] e same = refl
same_lines false false true [] [] e same = refl
same_lines false false false [] [] e same = refl
same_lines lead plain other [] (f ∷ fs) e same = cc
same_lines lead plain other (w ∷ ws) [] e same = cc
same_lines lead plain other (w ∷ ws) (f ∷ fs) e same =
    skips lead plain w ws
    ∙ ap (λ (s : List Tok). body_opened lead ++ (s ++ body_closed)) same
    ∙ sym (skips lead other f fs)

-- the last attribute, and what may follow it
before_lines : (marks : List Attr) (fs : List Form)
    → further line (attrs_before (map attr_form marks) ++ fs) ≡ further line (map attr_form marks ++ fs)
before_lines [] fs = refl
before_lines (a ∷ []) fs = refl
before_lines (a ∷ b ∷ marks) fs =
    ap (λ (s : List Tok). line ++ (stream_of (attr_form a) ++ s)) (before_lines (b ∷ marks) fs)

before_some : (marks : List Attr) (fs : List Form)
    → no_forms (attrs_before (map attr_form marks) ++ fs) ≡ no_forms (map attr_form marks ++ fs)
before_some [] fs = refl
before_some (a ∷ []) fs = refl
before_some (a ∷ b ∷ marks) fs = refl

-- a statement, and what may follow it
stmt_alone : (s : StmtFacts) → stream_of (stmt_form s) ≡ stream_of s.form
stmt_alone s = by s.unended
  where
    by : (b : Bool) → stream_of (if b then Part s.form Done else Part s.form (piece (dropped_if true))) ≡ stream_of s.form
    by true = refl
    by false = refl

stmts_lines : (stmts : List Stmt) → further line (map stmt_form (map about_stmt stmts)) ≡ further line (map stmt_told stmts)
stmts_lines [] = refl
stmts_lines (x ∷ stmts) =
    ap (λ (s : List Tok). line ++ (s ++ further line (map stmt_form (map about_stmt stmts)))) (stmt_alone (about_stmt x))
    ∙ ap (λ (s : List Tok). line ++ (stream_of (stmt_told x) ++ s)) (stmts_lines stmts)

stmts_some : (marks : List Attr) (stmts : List Stmt)
    → no_forms (map attr_form marks ++ map stmt_form (map about_stmt stmts)) ≡ no_forms (map attr_form marks ++ map stmt_told stmts)
stmts_some [] [] = refl
stmts_some [] (x ∷ stmts) = refl
stmts_some (a ∷ marks) stmts = refl

-- a block, as the body of its attributes and statements
pub block_body : (lead : Bool) (b : Block) (attrs : List Attr) (stmts : List Stmt) → attrs ≡ b.attrs → stmts ≡ b.stmts
    → stream_of (body (blank_if lead) [] (map attr_form attrs ++ map stmt_told stmts)) ≡ stream_of ((about_block b).form lead)
block_body lead b attrs stmts same sames =
    rw (same, sames) (sym (
    ap (λ (z : BlockFacts). stream_of (z.form lead)) (block_is b)
    ∙ same_lines lead (is_plain b.attrs) false (attrs_before (map attr_form b.attrs) ++ map stmt_form (map about_stmt b.stmts))
    (map attr_form b.attrs ++ map stmt_told b.stmts)
    (before_some b.attrs (map stmt_form (map about_stmt b.stmts)) ∙ stmts_some b.attrs b.stmts)
    (before_lines b.attrs (map stmt_form (map about_stmt b.stmts))
    ∙ sym (further_joined line (map attr_form b.attrs) (map stmt_form (map about_stmt b.stmts)))
    ∙ ap (λ (s : List Tok). further line (map attr_form b.attrs) ++ s) (stmts_lines b.stmts)
    ∙ further_joined line (map attr_form b.attrs) (map stmt_told b.stmts))))

-- parts on lines of their own, as the loops put them
pub each_further : (es : List Form) → further line es ≡ stream_of (each H es)
each_further es = sym (each_lines es)

pub row_further : (between : List Tok) (es : List Form) → row between between es ≡ further between es
row_further between [] = refl
row_further between (e ∷ es) = refl

-- A block is fed alike after a point.
body_steady : (lead plain : Bool) (es : List Form) → Steady (body (blank_if lead) (dropped_if plain) es)
body_steady true true [] true = refl
body_steady true false [] true = refl
body_steady false true [] true = refl
body_steady false false [] true = refl
body_steady true true (e ∷ es) true = refl
body_steady true false (e ∷ es) true = refl
body_steady false true (e ∷ es) true = refl
body_steady false false (e ∷ es) true = refl
body_steady lead plain es false = refl

pub steady_block : (lead : Bool) (b : Block) → Steady ((about_block b).form lead)
steady_block lead b q =
    ap (λ (z : BlockFacts). fed q (z.form lead) []) (block_is b)
    ∙ body_steady lead (is_plain b.attrs) (attrs_before (map attr_form b.attrs) ++ map stmt_form (map about_stmt b.stmts)) q
    ∙ sym (ap (λ (z : BlockFacts). stream_of (z.form lead)) (block_is b))

-- ---- blocks of one expression

soft_steady : (e : Form) → Steady (soft e)
soft_steady e true = refl
soft_steady e false = refl

by_attrs : (attrs : List Attr) (stmts : List StmtFacts) → Steady (soft_form attrs stmts)
by_attrs [] [] q = body_steady true true [] q
by_attrs [] (s ∷ []) q = by s.bare q
  where
    by : (b : Bool) → Steady (if b then soft s.form else block_form [] (s ∷ []) true)
    by true r = soft_steady s.form r
    by false r = body_steady true true (stmt_form s ∷ []) r
by_attrs [] (s ∷ t ∷ more) q = body_steady true true (map stmt_form (s ∷ t ∷ more)) q
by_attrs (a ∷ attrs) stmts q = body_steady true false (attrs_before (map attr_form (a ∷ attrs)) ++ map stmt_form stmts) q

pub steady_soft : (b : Block) → Steady (about_block b).soft
steady_soft b q =
    ap (λ (z : BlockFacts). fed q z.soft []) (block_is b)
    ∙ by_attrs b.attrs (map about_stmt b.stmts) q
    ∙ sym (ap (λ (z : BlockFacts). stream_of z.soft) (block_is b))

abbrev blank_line : List Tok
blank_line = tok.Break (break_of (Soft false 1)) ∷ []

-- A block is one expression or it isn't.
single_by : (attrs : List Attr) (stmts : List Stmt) → true ≡ is_single attrs (map about_stmt stmts)
    → body_opened true ++ (further blank_line (map stmt_told stmts) ++ soft_closed) ≡ stream_of (soft_form attrs (map about_stmt stmts))
single_by (a ∷ attrs) [] is = cc
single_by (a ∷ attrs) (x ∷ []) is = cc
single_by (a ∷ attrs) (x ∷ y ∷ more) is = cc
single_by [] [] is = cc
single_by [] (x ∷ y ∷ more) is = cc
single_by [] (x ∷ []) is =
    ap (λ (s : List Tok). body_opened true ++ (blank_line ++ s))
    (append_assoc (stream_of (stmt_told x)) [] soft_closed
    ∙ sym (fed_more false (stmt_told x) soft_closed))
    ∙ ap (λ (b : Bool). stream_of (if b then soft (stmt_told x) else block_form [] (about_stmt x ∷ []) true)) is

other_by : (attrs : List Attr) (stmts : List StmtFacts) → false ≡ is_single attrs stmts
    → stream_of (block_form attrs stmts true) ≡ stream_of (soft_form attrs stmts)
other_by (a ∷ attrs) stmts is = refl
other_by [] [] is = refl
other_by [] (s ∷ t ∷ more) is = refl
other_by [] (s ∷ []) is = ap (λ (b : Bool). stream_of (if b then soft s.form else block_form [] (s ∷ []) true)) is

pub single_block : (b : Block) (put : List Stmt) (single : Bool) → single ≡ is_single b.attrs (map about_stmt b.stmts)
    → single ≡ true → put ≡ b.stmts
    → body_opened true ++ (further blank_line (map stmt_told put) ++ soft_closed) ≡ stream_of (about_block b).soft
single_block b put single is holds same =
    rw same (single_by b.attrs b.stmts (sym holds ∙ is) ∙ sym (ap (λ (z : BlockFacts). stream_of z.soft) (block_is b)))

pub other_block : (b : Block) (single : Bool) → single ≡ is_single b.attrs (map about_stmt b.stmts) → single ≡ false
    → stream_of ((about_block b).form true) ≡ stream_of (about_block b).soft
other_block b single is fails =
    ap (λ (z : BlockFacts). stream_of (z.form true)) (block_is b)
    ∙ other_by b.attrs (map about_stmt b.stmts) (sym fails ∙ is)
    ∙ sym (ap (λ (z : BlockFacts). stream_of z.soft) (block_is b))

-- ---- statements

-- it is of this kind
stmt_is : (x y : Stmt) (facts : StmtFacts) → x ≡ y → about_stmt y ≡ facts → stream_of facts.form ≡ stream_of (stmt_told x)
stmt_is x y facts is e =
    sym (ap (λ (z : Stmt). stream_of (stmt_told z)) is ∙ ap (λ (z : StmtFacts). stream_of z.form) e)

steady_else : (otherwise : Option BlockFacts) → Steady (else_form otherwise)
steady_else None q = refl
steady_else (Some b) true = refl
steady_else (Some b) false = refl

typed_more : (ty : Option Ty) (f : Form) → Steady f → stream_of (self_type ty) ++ stream_of f ≡ stream_of (let_type ty f)
typed_more None f any = refl
typed_more (Some x) f any = ap (λ (s : List Tok). tok.Text (codes ": ") ∷ s) (part_more (about_type x).told.form f any)

steady_typed : (ty : Option Ty) (f : Form) → Steady f → Steady (let_type ty f)
steady_typed None f any q = any q
steady_typed (Some x) f any true = refl
steady_typed (Some x) f any false = refl

-- a binding
pub let_stmt : (x : Stmt) (attrs put : List Attr) (pat : Pat) (ty : Option Ty) (value : Option Expr) (otherwise : Option Block)
    → x ≡ stmt.Let attrs pat ty value otherwise → put ≡ attrs
    → stream_of (behind_attrs (map attr_form put) Done) ++ (tok.Text (codes "let ") ∷ (stream_of (about_pat pat).told.form
    ++ (stream_of (self_type ty) ++ (stream_of (value_form (option_map about_expr value))
    ++ (stream_of (else_form (option_map about_block otherwise)) ++ (tok.Text (codes ";") ∷ [])))))) ≡ stream_of (stmt_told x)
let_stmt x attrs put pat ty value otherwise is same =
    let v = value_form (option_map about_expr value) in
    let o = else_form (option_map about_block otherwise) in
    let end = Part o (piece semicolon) in
    let ending : Steady end = steady_part o (piece semicolon) (steady_else (option_map about_block otherwise)) steady_semicolon in
    let rest = Part v end in
    let resting : Steady rest = steady_part v end (steady_value (option_map about_expr value)) ending in
    rw same (ap (λ (s : List Tok). stream_of (behind_attrs (map attr_form attrs) Done) ++ (tok.Text (codes "let ") ∷ s))
    (ap (λ (s : List Tok). stream_of (about_pat pat).told.form ++ s)
    (ap (λ (s : List Tok). stream_of (self_type ty) ++ s)
    (ap (λ (s : List Tok). stream_of v ++ s) (part_more o (piece semicolon) steady_semicolon)
    ∙ part_more v end ending)
    ∙ typed_more ty rest resting)
    ∙ part_more (about_pat pat).told.form (let_type ty rest) (steady_typed ty rest resting))
    ∙ lines_more (map attr_form attrs) (Piece (keyword (codes "let") ∷ Blank ∷ []) (Part (about_pat pat).told.form (let_type ty rest)))
    ∙ stmt_is x (stmt.Let attrs pat ty value otherwise) _ is (stmt_let_is attrs pat ty value otherwise))

-- an item
pub item_stmt : (x : Stmt) (item put : Item) → x ≡ stmt.Item item → put ≡ item
    → stream_of (form_of_item put) ≡ stream_of (stmt_told x)
item_stmt x item put is same = rw same (stmt_is x (stmt.Item item) _ is (stmt_item_is item))

-- an expression, with its `;` or without one
ended_more : (e : Form) (ended : Bool) → stream_of e ++ cond ended (tok.Text (codes ";") ∷ []) [] ≡ stream_of (Part e (ended_form ended))
ended_more e true = part_more e (piece semicolon) steady_semicolon
ended_more e false = append-nil (stream_of e)

pub expr_stmt : (x : Stmt) (attrs put : List Attr) (y : Expr) (ended : Bool) → x ≡ stmt.Expr attrs y ended → put ≡ attrs
    → stream_of (behind_attrs (map attr_form put) Done) ++ (stream_of (about_expr y).form
    ++ cond ended (tok.Text (codes ";") ∷ []) []) ≡ stream_of (stmt_told x)
expr_stmt x attrs put y ended is same =
    rw same (ap (λ (s : List Tok). stream_of (behind_attrs (map attr_form attrs) Done) ++ s)
    (ended_more (about_expr y).form ended)
    ∙ lines_more (map attr_form attrs) (Part (about_expr y).form (ended_form ended))
    ∙ stmt_is x (stmt.Expr attrs y ended) _ is (stmt_expr_is attrs y ended))

-- the block after an `else`
pub some_otherwise : (otherwise : Option Block) (b : Block) → otherwise ≡ Some b
    → tok.Text (codes " else") ∷ stream_of ((about_block b).form true) ≡ stream_of (else_form (option_map about_block otherwise))
some_otherwise otherwise b is = rw is refl

-- ---- functions

-- a function without a body, and with one
pub no_body : (row : List Tok) (wheres : Wheres) (body : Option Block) → body ≡ None
    → row ++ stream_of (Part (wheres_before_semicolon wheres) (piece semicolon))
    ≡ row ++ stream_of (function_tail wheres (option_map about_block body))
no_body row wheres body is = rw is refl

pub some_body : (row : List Tok) (wheres : Wheres) (lead : Bool) (body : Option Block) (b : Block) → body ≡ Some b
    → lead ≡ leads wheres
    → (row ++ stream_of (wheres_before_body wheres)) ++ stream_of ((about_block b).form lead)
    ≡ row ++ stream_of (function_tail wheres (option_map about_block body))
some_body row wheres lead body b is e =
    rw (is, e) (append_assoc row (stream_of (wheres_before_body wheres)) (stream_of ((about_block b).form (leads wheres)))
    ∙ ap (λ (s : List Tok). row ++ s)
    (part_more (wheres_before_body wheres) (Part ((about_block b).form (leads wheres)) Done) (steady_block (leads wheres) b)))

pub steady_function : (wheres : Wheres) (body : Option Block) → Steady (function_tail wheres (option_map about_block body))
steady_function wheres None = steady_end wheres
steady_function wheres (Some b) =
    steady_part (wheres_before_body wheres) (Part ((about_block b).form (leads wheres)) Done) (steady_wheres_body wheres)
    (steady_block (leads wheres) b)

-- ---- loops

-- the same tokens before each
pub same_before : (b : Bool) (r s : List Tok) → r ++ s ≡ cond b r r ++ s
same_before true r s = refl
same_before false r s = refl

-- A block of one expression may be closed after it.
soft_open : (brk : List Tok) → ((k : ℕ) → opened brk k ≡ k) → (es : List Form) (n : ℕ) → opened (body_opened true ++ further brk es) n ≡ suc n
soft_open brk level es n = level_further brk level es (suc n)

pub may_close_soft : {S F T : Type 0} {m : Meanings S F} {a b : S} {p q : Result T F} (brk : Break) (es : List Form)
    → Adds m p a (body_opened true ++ further (tok.Break brk ∷ []) es) q b → OnOk q (0 < m.groups b)
may_close_soft {m} {a} {p} {q} brk es h =
    on_ok q (λ x is. (one_open (m.groups a) (level_behind p q x h is ∙ soft_open (tok.Break brk ∷ []) (λ k. refl) es (m.groups a))).0)
