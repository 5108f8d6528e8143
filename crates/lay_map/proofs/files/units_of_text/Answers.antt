-- What the cursor goes along is what the text lexes to.
use Rattle.std.proofs.Common.{List, [], sym, subst, append-nil}
use Rattle.std.proofs.lemmas.Result.{IfOk-weaker}
use Rattle.std.proofs.lemmas.Str.{IsUtf8-drop}
use Rattle.lay_token.specs.Lexes.{Lexes}
use Rattle.lay_token.specs.declared.token.Token.{Token}
use Rattle.lay_code.specs.Reading.{SpellsFile, top}
use Rattle.lay_read_tokens.specs.Answers.{AreLexed}
use Rattle.lay_map.specs.Places.{ArePlaces}
use Rattle.lay_map.proofs.files.units_of_text.Goals as goal

pub found-requires-clause-lexed : goal.found-requires-clause-lexed
found-requires-clause-lexed c =
    let read = c.requires.read in
    let text = c.args.text.now in
    let lexed : AreLexed read.0 = record {
      bytes = text;
      start = c.args.start;
      before = [];
      after = [];
      utf8 = IsUtf8-drop text c.args.start c.utf8.text c.requires.border;
      lexes = subst (λ (tokens : List Token). Lexes text c.args.start tokens) (sym (append-nil read.0)) read.1;
    } in
    subst AreLexed (sym (c.new.ensures read.0 read.1)) lexed

pub found-requires-clause-spells : goal.found-requires-clause-spells
found-requires-clause-spells c =
    let read = c.requires.read in
    subst (SpellsFile top c.args.file.now) (sym (c.new.ensures read.0 read.1)) read.2

pub returns : goal.returns
returns c =
    IfOk-weaker c.found.result _ _
    (λ list are tokens lexes. subst (λ (others : List Token). ArePlaces c.args.file.now others list) (c.new.ensures tokens lexes) are) c.found.ensures
