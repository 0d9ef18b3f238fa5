use Rattle.std.proofs.Common.{rules, ap, ap₂, ◌≡◌, ◌∙◌, codes, true}
use Rattle.std.proofs.lemmas.Result.{IfOk-weaker}
use Rattle.clap.specs.Words.{App, app_of, rule_of, with_rule}
use Rattle.clap.specs.Simple.{app_of_fields}
use Rattle.wu_options.specs.Parser.{bare_app, option_rule, words_rule}
use Rattle.wu_options.proofs.reading.command.Goals as goal

abbrev without_name : App → App
without_name app = record app { top = record app.top { no_binary_name = true } }

abbrev without_help : App → App
without_help app = record app { top = record app.top { disable_help_flag = true } }

abbrev without_version : App → App
without_version app = record app { top = record app.top { disable_version_flag = true } }

pub returns : goal.returns
returns c =
    let max_input_is : rule_of c.action-max_input.result ≡ option_rule (codes "max-input") = search rules in
    let flush_is : rule_of c.action-flush.result ≡ option_rule (codes "flush") = search rules in
    let words_is : rule_of c.action-words.result ≡ words_rule = search rules in
    let bare_is : app_of c.disable_version_flag.result ≡ bare_app = ap app_of_fields c.disable_version_flag.ensures
    ∙ ap without_version
    (ap app_of_fields c.disable_help_flag.ensures
    ∙ ap without_help (ap app_of_fields c.no_binary_name.ensures ∙ ap without_name c.new-4.ensures.app)) in
    IfOk-weaker c.arg-3.result _ _ (λ command added. added.shape (search rules)
    ∙ ap₂ with_rule
    (c.in_ok-arg-2.ensures.shape (search rules)
    ∙ ap₂ with_rule (c.in_ok-arg.ensures.shape (search rules) ∙ ap₂ with_rule bare_is max_input_is) flush_is) words_is)
    c.arg-3.ensures
