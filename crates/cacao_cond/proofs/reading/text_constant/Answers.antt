-- Characters that are a text, and others.
use Rattle.std.proofs.Common.{◌≡◌, sym, subst, rules}
use Rattle.std.specs.Str.{IsUtf8}
use Rattle.std.proofs.lemmas.Str.{IsUtf8-string_bytes}
use Rattle.std.proofs.lemmas.Grind.{common_steps}
use Rattle.std.proofs.Common.{arith}
use Rattle.std.proofs.lemmas.Bool.{true≢false}
use Rattle.cacao_cond.proofs.ReadLemmas.{text_yes, text_no}
use Rattle.cacao_cond.proofs.reading.text_constant.Goals as goal

pub returns-in-Ok : goal.returns-in-Ok
returns-in-Ok c =
    let same : c.from_string.result ≡ c.args.word.items = first_of (search rules, grind (arith, common_steps), cc (c.from_string.ensures, c.in-Ok.ensures.ok)) in
    text_yes c.args.word.items c.args.rest.now c.from_string.result same (subst IsUtf8 (sym c.from_string.ensures) (IsUtf8-string_bytes c.in-Ok.word))

pub returns : goal.returns
returns c = text_no c.args.word.items c.args.rest.now (λ text. true≢false (sym (c.in-Err.ensures.succeeds text)))
