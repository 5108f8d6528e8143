-- Groups and macro calls: when they are well formed, and their forms (Rust Reference, "Macro
-- invocation"). Each ends in a group, so anything may follow.
use Rattle.std.specs.Prelude.{Bool, ◌&&◌, List, [], ◌∷◌, codes}
use Rattle.lay_piece.specs.declared.kind.Delim.{Delim}
use Rattle.lay_piece.specs.declared.kind.Delim.TheVariants.{Brace}
use Rattle.lay_form.specs.Form.{Bit, Blank, Operator, Form, Done, Piece, Part, semicolon}
use Rattle.lay_form.specs.Notation.{piece}
use Rattle.lay_node.specs.nodes.Facts.{Facts}
use Rattle.lay_node.specs.nodes.SimplePath.{about_simple_path}
use Rattle.lay_node.specs.tokens.Lexed.{is_token_list}
use Rattle.lay_node.specs.tokens.Lists.{group_form}
use Rattle.lay_node.specs.declared.tokens.Group.{Group}
use Rattle.lay_node.specs.declared.tokens.MacroCall.{MacroCall}

abbrev pub is_group : Group → Bool
is_group group = is_token_list group.tokens

abbrev pub about_group : Group → Facts
about_group group = record { form = group_form group Done; good = is_group group; refuses = [] }

-- the `!` of a macro call, before a group in braces with a blank after it
abbrev pub bang : Delim → List Bit
bang Brace = Operator (codes "!") ∷ Blank ∷ []
bang _ = Operator (codes "!") ∷ []

-- the blank before the rules of a macro in braces
abbrev pub before_rules : Delim → Form → Form
before_rules Brace f = Piece (Blank ∷ []) f
before_rules _ f = f

-- the end of an item that is a macro call or declares a macro: nothing after braces, else a `;`
abbrev pub end_form : Delim → Form
end_form Brace = Done
end_form _ = piece semicolon

abbrev pub call_form : MacroCall → Form
call_form call =
    Part (about_simple_path call.path).form (Piece (bang call.tokens.delim) (group_form call.tokens Done))

abbrev pub about_call : MacroCall → Facts
about_call call = record { form = call_form call; good = (about_simple_path call.path).good && is_group call.tokens; refuses = [] }
