-- What is computed of each node of code that is no expression.
use Rattle.std.specs.Prelude.{Bool, Option}
use Rattle.lay_form.specs.Form.{Form}
use Rattle.lay_node.specs.declared.heads.Site.{Site}

pub record BlockFacts : Type 0 where
  -- The braces and what stands within them. The flag says that a blank stands before them.
  pub form : Bool → Form
  -- the same, where a block of one expression may stay on one line
  pub soft : Form
  pub good : Bool
  -- It holds one expression without attributes and without a `;`, which is no macro call, and
  -- nothing else. A body of an arm is no such block, since its braces are dropped. Nor is the body
  -- of a closure, where the expression may stand in its place.
  pub lone : Bool
  -- That expression holds no struct literal outside delimiters.
  pub structless : Bool

pub record StmtFacts : Type 0 where
  pub form : Form
  pub good : Bool
  -- an expression without a `;`, which no `;` may follow
  pub unended : Bool
  -- Another statement may stand after it.
  pub ends : Bool
  -- an expression without attributes and without a `;`
  pub bare : Bool
  -- an expression that is a macro call
  pub call : Bool
  -- It is no expression that holds a struct literal outside delimiters.
  pub structless : Bool

pub record LinkFacts : Type 0 where
  pub form : Form
  -- It begins with `let`.
  pub is_let : Bool
  -- It may be one of several links of a condition that has a `let`. The flag says that a further
  -- link follows.
  pub good : Bool → Bool
  -- It may be a condition by itself.
  pub alone : Bool

pub record ConditionFacts : Type 0 where
  pub form : Form
  pub good : Bool

pub record BranchFacts : Type 0 where
  -- the condition
  pub condition : Form
  -- the block, which may stand on one line
  pub soft : Form
  pub good : Bool

pub record ArmFacts : Type 0 where
  -- The flag says that it is the last arm.
  pub form : Bool → Form
  pub good : Bool

pub record ItemFacts : Type 0 where
  pub form : Form
  pub good : Site → Bool
  -- a macro call
  pub call : Bool

pub record KindFacts : Type 0 where
  -- The head, which the layout puts into a group of its own, with the visibility before it. Macros
  -- have no head.
  pub head : Option Form
  -- what follows it
  pub tail : Form
  pub good : Site → Bool
  -- a macro call
  pub call : Bool
