-- Arms of a match tell their units, given that what is within them does: a `,` between two of them is after the arrow of the first.
use Rattle.std.proofs.Common.{◌≡◌, Bool, true, false, not, ◌&&◌, List, [], ◌∷◌, ◌++◌, codes, refl, sym, subst, map, Option, Some, None}
use Rattle.std.proofs.lemmas.Bool.{and_parts, and_from}
use Rattle.lay_form.specs.Form.{Bit, Blank, Operator, ArmComma, Form, Done, Piece, Body, keyword}
use Rattle.lay_form.specs.Notation.{N, I0, body}
use Rattle.lay_form.specs.Pieces.{are_pieces}
use Rattle.lay_node.specs.nodes.Attr.{are_attrs, attr_form}
use Rattle.lay_node.specs.nodes.Patterns.{about_pat, pat_good}
use Rattle.lay_node.specs.declared.attr.Attr.{Attr}
use Rattle.lay_node.specs.declared.attr.Attr.TheVariants as attr
use Rattle.lay_node.specs.declared.patterns.Pat.{Pat}
use Rattle.lay_node.specs.declared.patterns.PatPlace.TheVariants.{Alternatives}
use Rattle.lay_code.specs.nodes.Bodies.{braces_of, is_lone_body}
use Rattle.lay_code.specs.nodes.Blocks.{arm_facts, guard_form, is_free}
use Rattle.lay_code.specs.nodes.CodeFacts.{ArmFacts}
use Rattle.lay_code.specs.nodes.Exprs.{ExprFacts, arm_forms, arms_good, placed, value_placed}
use Rattle.lay_code.specs.nodes.Places.{FREE, statement}
use Rattle.lay_map.specs.spelling.Choice.{calm, clear}
use Rattle.lay_map.specs.spelling.Units.{Word, bits_words, words}
use Rattle.lay_map.specs.Flow.{At, Still, Flow, flow, group_flow, left}
use Rattle.lay_map.proofs.BodyRules.{Calms, calm_all, calms_group, calms_part, first_of}
use Rattle.lay_map.proofs.FrontRules.{Leads, leads_group, leads_part}
use Rattle.lay_map.proofs.RowRules.{Ended, Row, arm_body, body_clear, calm_rows, leads_attrs, lined_rows, row_behind}
use Rattle.lay_map.proofs.Rules.{All, Levels, NoComma, Plain, Tells, ends, fixed, levels_two, no_levels, part}
use Rattle.lay_map.proofs.nodes.Attrs.{attrs_calm_then, attrs_firm, attrs_lined}
use Rattle.lay_map.proofs.nodes.ExprParts.{ExprTells, Sound, at_place, both_all}
use Rattle.lay_map.proofs.nodes.Patterns.{pat_calm, pat_no_comma, pat_tells}
use Rattle.lay_map.proofs.nodes.TypeArgs.{Each, Given}

-- ---- an arm

pub record ArmTold (f : Form) : Type 0 where
  pub row : Row NoComma f
  pub leads : Leads NoComma f
  pub calm_is : Calms f

-- The flag says that it is the last arm.
pub record ArmTells (x : ArmFacts) : Type 0 where
  pub go : (last : Bool) → x.good ≡ true → ArmTold (x.form last)

attr_leads : (x : Attr) → Leads NoComma (attr_form x)
attr_leads (attr.Doc flag text) = record { go = λ w ws. refl }
attr_leads (attr.Meta true path given) = record { go = λ w ws. refl }
attr_leads (attr.Meta false path given) = record { go = λ w ws. refl }

attrs_lead : (attrs : List Attr) → All (Leads NoComma) (map attr_form attrs)
attrs_lead [] = tt
attrs_lead (x ∷ xs) = (attr_leads x, attrs_lead xs)

guard_tells : (x : Option ExprFacts) → Given ExprTells x → value_placed x ≡ true → Plain (guard_form x)
guard_tells None k g = ends
guard_tells (Some x) k g = fixed (Blank ∷ keyword (codes "if") ∷ Blank ∷ []) refl (part (at_place x k FREE g).tells ends)

-- the arrow of an arm
abbrev arrow : List Bit
arrow = Blank ∷ Operator (codes "=>") ∷ Blank ∷ []

arrow_level : (x : List Bool) → Levels (bits_words arrow) x x
arrow_level x = record { shut_is = refl; leaves = refl }

-- a head, and a body after the arrow
arm_row : {head : Form} (x : ExprFacts) (last : Bool) → Plain head → Sound x.form
    → Row NoComma (I0 head (Piece arrow (N (Body (braces_of x.kind) (ArmComma last (is_free x)) x.form Done))))
arm_row {head} x last t s = record {
  go = λ w.
      let b = Body (braces_of x.kind) (ArmComma last (is_free x)) x.form Done in
      let rest = Piece arrow (N b) in
      let p = and_parts (are_pieces head) (are_pieces rest) w in
      let q = (and_parts (are_pieces x.form) true p.1).0 in
      let u = t.go p.0 in
      record {
        flows = λ a.
            subst (λ (s : Flow). Ended (flow (left (At Still a) (group_flow s)) rest)) (sym (u.flows false))
            (arm_body (braces_of x.kind) last (is_free x) s.tells s.firm_is q);
        clears = λ ws c n.
            and_from (clear head (words rest ++ ws) (calm rest c)) (clear rest ws c) (u.clears (words rest ++ ws) (calm rest c) tt)
            (body_clear (braces_of x.kind) (ArmComma last (is_free x)) s.tells s.firm_is q ws c n);
        levels = λ z.
            levels_two (words head) (words rest) (u.levels z)
            (levels_two (bits_words arrow) (words b) (arrow_level z) (levels_two (words x.form) [] ((s.tells.go q).levels z) (no_levels z)));
      };
}

pub arm_tells : (attrs : List Attr) (pat : Pat) (guard : Option ExprFacts) (x : ExprFacts) → Given ExprTells guard → ExprTells x
    → ArmTells (arm_facts (record { attrs = attrs; pat = pat; guard = guard; body = x }))
arm_tells attrs pat guard x k l = record {
  go = λ last g.
      let n1 = and_parts (are_attrs false attrs && pat_good Alternatives (about_pat pat) && value_placed guard && placed x statement) (not (is_lone_body x.kind)) g in
      let n2 = and_parts (are_attrs false attrs && pat_good Alternatives (about_pat pat) && value_placed guard) (placed x statement) n1.0 in
      let n3 = and_parts (are_attrs false attrs && pat_good Alternatives (about_pat pat)) (value_placed guard) n2.0 in
      let n4 = and_parts (are_attrs false attrs) (pat_good Alternatives (about_pat pat)) n3.0 in
      let es = map attr_form attrs in
      record {
        row = row_behind es (attrs_lined false attrs n4.0)
            (arm_row x last (part (pat_tells Alternatives pat n4.1) (guard_tells guard k n3.1)) (at_place x l statement n2.1));
        leads = leads_attrs es (attrs_lead attrs)
            (leads_group false 0 (leads_part (record { go = λ w ws. pat_no_comma Alternatives pat n4.1 w ws })));
        calm_is = attrs_calm_then es (attrs_firm attrs) (calms_group false 0 (calms_part (pat_calm Alternatives pat n4.1)));
      };
}

-- ---- the arms of a match

record Arms (es : List Form) : Type 0 where
  rows : All (Row NoComma) es
  lead : All (Leads NoComma) es
  calm_are : All Calms es

arm_and : {e : Form} {es : List Form} → ArmTold e → Arms es → Arms (e ∷ es)
arm_and t r = record { rows = (t.row, r.rows); lead = (t.leads, r.lead); calm_are = (t.calm_is, r.calm_are) }

no_arms : Arms []
no_arms = record { rows = tt; lead = tt; calm_are = tt }

arms_tell : (arms : List ArmFacts) → Each ArmTells arms → arms_good arms ≡ true → Arms (arm_forms arms)
arms_tell [] k g = no_arms
arms_tell (a ∷ []) k g = arm_and (k.0.go true (and_parts a.good true g).0) no_arms
arms_tell (a ∷ b ∷ more) k g =
    let n = and_parts a.good (arms_good (b ∷ more)) g in
    arm_and (k.0.go false n.0) (arms_tell (b ∷ more) k.1 n.1)

attrs_arms : (attrs : List Attr) → are_attrs true attrs ≡ true → Arms (map attr_form attrs)
attrs_arms attrs g = record {
  rows = lined_rows NoComma (map attr_form attrs) (attrs_lined true attrs g);
  lead = attrs_lead attrs;
  calm_are = calm_all (map attr_form attrs) (attrs_firm attrs);
}

-- attributes and arms in braces
pub match_body_tells : {Next : List Word → Type 0} (attrs : List Attr) (arms : List ArmFacts) → Each ArmTells arms → are_attrs true attrs ≡ true
    → arms_good arms ≡ true → Tells Next (body (Blank ∷ []) [] (map attr_form attrs ++ arm_forms arms))
match_body_tells attrs arms k g h =
    let before = map attr_form attrs in
    let es = arm_forms arms in
    let a = attrs_arms attrs g in
    let r = arms_tell arms k h in
    calm_rows NoComma true (before ++ es) (λ ws. refl) (both_all (Row NoComma) before es a.rows r.rows)
    (both_all (Leads NoComma) before es a.lead r.lead)
    (first_of Calms (before ++ es) (both_all Calms before es a.calm_are r.calm_are))
