-- Lookahead for items, in code.
use Rattle.std.specs.Prelude.{ℕ, ◌||◌, Bool, if◌then◌else◌, List, codes}
use Rattle.std.specs.Str.{bytes_eq}
use Rattle.lay_node.specs.Ahead.{Tokens, tail}
use Rattle.lay_code.specs.reader.ItemLeads as item
use Rattle.lay_code.specs.reader.ItemLeads.{ItemLead}
use Rattle.lay_read_begun.specs.declared.leads.ItemLead.{ItemLead as Lead}
use Rattle.lay_read_begun.specs.declared.leads.ItemLead.TheVariants as lead

abbrev pub told : Lead → ItemLead
told lead.ExternCrate = item.OfExternCrate
told lead.Import = item.OfImport
told lead.Module = item.OfModule
told lead.Function = item.OfFunction
told lead.Alias = item.OfAlias
told lead.Struct = item.OfStruct
told lead.Union = item.OfUnion
told lead.Enum = item.OfEnum
told lead.Value = item.OfValue
told lead.Trait = item.OfTrait
told lead.Impl = item.OfImpl
told lead.Foreign = item.OfForeign
told lead.Rules = item.OfRules
told lead.Call = item.OfCall

-- A function may begin with this word.
abbrev pub may_lead_function : List ℕ → Bool
may_lead_function word =
    bytes_eq word (codes "fn")
    || (bytes_eq word (codes "const")
    || (bytes_eq word (codes "async")
    || (bytes_eq word (codes "unsafe") || (bytes_eq word (codes "safe") || bytes_eq word (codes "extern")))))

-- the kind of item that begins with this word, where the tokens begin with it too
abbrev pub led_by : List ℕ → Tokens → ItemLead
led_by word ts =
    if bytes_eq word (codes "use") then item.OfImport
    else (if bytes_eq word (codes "mod") then item.OfModule
    else (if bytes_eq word (codes "type") then item.OfAlias
    else (if bytes_eq word (codes "struct") then item.OfStruct
    else (if bytes_eq word (codes "enum") then item.OfEnum
    else (if bytes_eq word (codes "const") then item.OfValue
    else (if bytes_eq word (codes "static") then item.OfValue
    else (if bytes_eq word (codes "trait") then item.OfTrait
    else (if bytes_eq word (codes "impl") then item.OfImpl
    else (if bytes_eq word (codes "unsafe") then item.unsafe_lead (tail ts)
    else (if bytes_eq word (codes "extern") then item.extern_lead (tail ts) else item.macro_lead ts))))))))))

abbrev pub lead_of_word : List ℕ → Tokens → ItemLead
lead_of_word word ts =
    if may_lead_function word then (if item.begins_function ts then item.OfFunction else led_by word ts) else led_by word ts
