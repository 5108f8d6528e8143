use Rattle.std.proofs.Common.{[], length, sym, ap, ◌∙◌}
use Rattle.std.proofs.lemmas.List.{length-map}
use Rattle.lay_code.specs.Reading.{top}
use Rattle.lay_code.specs.nodes.File.{form_of_file}
use Rattle.lay_map.specs.spelling.Units.{Unit, units}
use Rattle.lay_map.proofs.spelling_lemmas.UnitLemmas.{same}
use Rattle.lay_map.proofs.FileLemmas.{found_places}
use Rattle.lay_map.proofs.LexedLemmas.{lexed_single}
use Rattle.lay_map.proofs.law.map_law.Goals as goal

pub returns : goal.returns
returns c = record {
  said = λ file ts us l m s z. same (form_of_file file) top top ts us [] [] (lexed_single ts l) (lexed_single us m) s z;
  number = λ file ts us l m s z.
      let f = form_of_file file in
      sym (length-map (units f top ts [] s) (λ (u : Unit). u.word))
      ∙ ap length (same f top top ts us [] [] (lexed_single ts l) (lexed_single us m) s z)
      ∙ length-map (units f top us [] z) (λ (u : Unit). u.word);
  once = λ file ts w l s z. sym (found_places file ts w (lexed_single ts l) s) ∙ found_places file ts w (lexed_single ts l) z;
}
