-- Each argument adds its rule.
use Rattle.std.proofs.Common.{◌≡◌, ◌∙◌, ap₂, rules}
use Rattle.std.proofs.lemmas.Result.{IfOk-weaker}
use Rattle.clap.specs.Words.{app_of, rule_of, with_rule}
use Rattle.lay_args.specs.Command.{bare, file_rule}
use Rattle.lay_args.proofs.command.command.Goals as goal

pub returns : goal.returns
returns c =
    let file_is : rule_of c.new-file.result ≡ file_rule = search rules in
    let bare_is : app_of c.no_binary_name-bare.result ≡ bare = search rules in
    let first = c.in_ok-arg.ensures.shape c.flag-check.ensures.local ∙ ap₂ with_rule bare_is c.flag-check.ensures.rule in
    let second = c.in_ok-arg-2.ensures.shape c.flag-map.ensures.local ∙ ap₂ with_rule first c.flag-map.ensures.rule in
    let third = c.in_ok-arg-3.ensures.shape c.option-sample.ensures.local ∙ ap₂ with_rule second c.option-sample.ensures.rule in
    let fourth = c.in_ok-arg-4.ensures.shape c.option-items.ensures.local ∙ ap₂ with_rule third c.option-items.ensures.rule in
    IfOk-weaker c.arg-5.result _ _ (λ command added. added.shape (search rules) ∙ ap₂ with_rule fourth file_is) c.arg-5.ensures
