use Rattle.std.proofs.Common.{◌≡◌, subst, rules}
use Rattle.std.specs.Str.{IsUtf8}
use Rattle.std.specs.String.{string_bytes}
use Rattle.std.proofs.lemmas.Str.{IsUtf8-string_bytes}
use Rattle.flow_core_plans.proofs.issuing.question_at.Goals as goal

pub returns-clause-text : goal.returns-clause-text
returns-clause-text c =
    let is : string_bytes c.in_ok-text.text ≡ c.issue_with.result.bytes = search rules in
    subst IsUtf8 is (IsUtf8-string_bytes c.in_ok-text.text)
