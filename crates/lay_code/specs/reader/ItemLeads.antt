-- Lookahead for items: which kind of item the next tokens begin.
use Rattle.std.specs.Prelude.{◌&&◌, Bool, if◌then◌else◌, drop, codes, is_some}
use Rattle.lay_token.specs.Operators.{is_op}
use Rattle.lay_node.specs.Ahead.{Tokens, first, tail, is_keyword}
use Rattle.lay_node.specs.reader.Functions.{behind_qualifiers}
use Rattle.lay_node.specs.reader.Words.{name}

pub data ItemLead : Type 0 where
  OfExternCrate : ItemLead
  OfImport : ItemLead
  OfModule : ItemLead
  OfFunction : ItemLead
  OfAlias : ItemLead
  OfStruct : ItemLead
  OfUnion : ItemLead
  OfEnum : ItemLead
  OfValue : ItemLead
  OfTrait : ItemLead
  OfImpl : ItemLead
  OfForeign : ItemLead
  OfRules : ItemLead
  OfCall : ItemLead

abbrev pub begins_function : Tokens → Bool
begins_function ts = first (is_keyword (codes "fn")) (behind_qualifiers ts)

-- `union` is a keyword only before a name, and `macro_rules` only before a `!` and a name.
abbrev pub begins_union : Tokens → Bool
begins_union ts = first (is_keyword (codes "union")) ts && is_some (name (tail ts))

abbrev pub begins_rules : Tokens → Bool
begins_rules ts = first (is_keyword (codes "macro_rules")) ts && is_op (codes "!") (tail ts) && is_some (name (drop 1 (tail ts)))

-- what `unsafe` begins, by the tokens after it, if it is no function
abbrev pub unsafe_lead : Tokens → ItemLead
unsafe_lead ts =
    if first (is_keyword (codes "trait")) ts then OfTrait
    else (if first (is_keyword (codes "impl")) ts then OfImpl else OfForeign)

abbrev pub extern_lead : Tokens → ItemLead
extern_lead ts = if first (is_keyword (codes "crate")) ts then OfExternCrate else OfForeign

abbrev pub macro_lead : Tokens → ItemLead
macro_lead ts = if begins_union ts then OfUnion else (if begins_rules ts then OfRules else OfCall)

abbrev pub word_lead : Tokens → ItemLead
word_lead ts =
    if first (is_keyword (codes "use")) ts then OfImport
    else (if first (is_keyword (codes "mod")) ts then OfModule
    else (if first (is_keyword (codes "type")) ts then OfAlias
    else (if first (is_keyword (codes "struct")) ts then OfStruct
    else (if first (is_keyword (codes "enum")) ts then OfEnum
    else (if first (is_keyword (codes "const")) ts then OfValue
    else (if first (is_keyword (codes "static")) ts then OfValue
    else (if first (is_keyword (codes "trait")) ts then OfTrait
    else (if first (is_keyword (codes "impl")) ts then OfImpl
    else (if first (is_keyword (codes "unsafe")) ts then unsafe_lead (tail ts)
    else (if first (is_keyword (codes "extern")) ts then extern_lead (tail ts) else macro_lead ts))))))))))

unfoldable pub item_lead : Tokens → ItemLead
item_lead ts = if begins_function ts then OfFunction else word_lead ts
