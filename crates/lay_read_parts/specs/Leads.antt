-- Lookahead for types, in code.
use Rattle.lay_node.specs.Begins as begins
use Rattle.lay_read_parts.specs.declared.leads.Lead.{Lead}
use Rattle.lay_read_parts.specs.declared.leads.Lead.TheVariants as lead

abbrev pub told : Lead → begins.Lead
told lead.Path = begins.OfPath
told lead.Paren = begins.OfParen
told lead.Never = begins.OfNever
told lead.Infer = begins.OfInfer
told lead.Pointer = begins.OfPointer
told lead.Reference = begins.OfReference
told lead.Bracket = begins.OfBracket
told lead.Impl = begins.OfImpl
told lead.Dyn = begins.OfDyn
told lead.Func = begins.OfFunc
