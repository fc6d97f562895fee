-- Promise: The acts of a filter, what they reply, and the rules after them.
use Rattle.std.specs.Prelude.{◌≡◌, ◌≢◌, ℕ, List, [], ◌∷◌, ◌++◌, map, take, All, AllPairs, Some, slice_get}
use Rattle.oc2_msg.specs.Responses.{response_text}
use Rattle.run_records.specs.declared.act.Act.{Act}
use Rattle.slpf_rules.specs.declared.rules.Rule.{Rule}
use Rattle.slpf_rules.specs.Replies.{reply, table}

-- the canonical text of the response to the bytes of a command at a moment
abbrev pub reply_text : List Rule → List ℕ → ℕ → List ℕ
reply_text rules command moment = response_text (reply rules command moment).0

-- the rules after the acts, in order
abbrev pub table_of : List Act → List Rule
table_of acts = table (map (λ (act : Act). (act.command, act.moment)) acts)

-- two acts differ in their run or their issue
abbrev pub IsOther : Act → Act → Type 0
IsOther a b = a.run ≡ b.run → a.issue ≢ b.issue

-- the act's reply is the text of the response of the table before it
abbrev pub IsReplied : List Act → Act → Type 0
IsReplied before act = act.reply ≡ reply_text (table_of before) act.command act.moment

-- the acts of one filter: no two have one run and issue, and each reply is that of the table before it
pub record AreActs (acts : List Act) : Type 0 where
  pub once : AllPairs IsOther acts
  pub replied : (n : ℕ) (act : Act) → slice_get acts n ≡ Some act → IsReplied (take n acts) act

-- ---- from act to act

abbrev pub BeginWithNone : Type 0
BeginWithNone = AreActs []

abbrev pub GoOnByOne : Type 0
GoOnByOne = (acts : List Act) (act : Act) → AreActs acts → All (λ a. IsOther a act) acts → IsReplied acts act
    → AreActs (acts ++ act ∷ [])
