-- The acts of the entries of a file, and an entry that can't follow them.
use Rattle.std.proofs.Common.{◌≡◌, ℕ, suc, ◌<◌, true, false, List, [], ◌∷◌, ◌++◌, length, take, drop, find, Option, Some, None, sym, subst, ap, ap₂, ◌∙◌, drop-cons}
use Rattle.std.specs.Borrow.{Bor}
use Rattle.std.specs.Prelude.{IfSome, is_some, option_copied, slice_index_or}
use Rattle.std.proofs.lemmas.List.{take-append-drop}
use Rattle.std.proofs.lemmas.Option.{none-some, same_Some}
use Rattle.run_journal.specs.Layout.{front}
use Rattle.run_records.specs.declared.act.Act.{Act}
use Rattle.run_records.specs.Layout.{act_layout}
use Rattle.run_records.specs.Ranges.{ActInRange}
use Rattle.run_records.specs.Reading.{act_of}
use Rattle.slpf_rules_acts.specs.Acts.{reply_text, table_of}
use Rattle.slpf_actuator_acts.specs.ActLists.{IsHistory, IsNew, MayFollow, entries_of}
use Rattle.slpf_actuator_acts.specs.Damage.{BreaksIn, IsBad}
use Rattle.slpf_actuator_acts.specs.History.{is_of}
use Rattle.slpf_actuator_acts.proofs.ActLemmas.{entries_push}
use Rattle.slpf_actuator_acts.proofs.Places.{find_none, new_finds_none}

-- an entry of an act, which was pushed
pub entries_pushed : (acts pushed : List Act) (act : Act) (entry : List ℕ) → pushed ≡ acts ++ act ∷ [] → (found : Option Act) → found ≡ Some act
    → IfSome found (λ a. ActInRange a × (entry ≡ act_layout a)) → entries_of pushed ≡ entries_of acts ++ entry ∷ []
entries_pushed acts pushed act entry is found some laid_out =
    let layout : entry ≡ act_layout act = (subst (λ (o : Option Act). IfSome o (λ a. ActInRange a × (entry ≡ act_layout a))) some laid_out).1 in
    ap entries_of is ∙ entries_push acts act ∙ ap (λ (e : List ℕ). entries_of acts ++ e ∷ []) (sym layout)

pub breaks_at : (acts : List Act) (items : List (List ℕ)) (entry : List ℕ) (n place : ℕ) → entries_of acts ≡ take n items → n < length items
    → entry ≡ slice_index_or items n [] → place ≡ length (front (take n items)) → IsHistory acts → IsBad acts entry → BreaksIn items place
breaks_at acts items entry n place is within here at history bad = record {
  acts = acts;
  entry = entry;
  rest = drop (suc n) items;
  is = sym (take-append-drop n items) ∙ ap₂ (λ (l r : List (List ℕ)). l ++ r) (sym is) (drop-cons items n [] within ∙ ap (λ (e : List ℕ). e ∷ drop (suc n) items) (sym here));
  history = history;
  bad = bad;
  at = at ∙ ap (λ (l : List (List ℕ)). length (front l)) (sym is);
}

-- ---- entries that can't follow

-- an act of a run and an issue that another has
pub bad_again : (acts : List Act) (entry : List ℕ) (act : Act) (found : Option (Bor Act)) → act_of entry ≡ Some act
    → option_copied found ≡ find (is_of act.run act.issue) acts → is_some found ≡ true → IsBad acts entry
bad_again acts entry act None reads is some = let e : false ≡ true = some in absurd (cc)
bad_again acts entry act (Some x) reads is some = λ other read follows.
    let same : act ≡ other = same_Some act other (sym reads ∙ read) in
    let is_new : IsNew acts act.run act.issue = subst (λ (a : Act). IsNew acts a.run a.issue) (sym same) follows.is_new in
    none-some x.now (sym (is ∙ new_finds_none act.run act.issue acts is_new))

-- an act that can
pub may_follow : (acts : List Act) (act : Act) (found : Option (Bor Act)) (reply : List ℕ) → option_copied found ≡ find (is_of act.run act.issue) acts → is_some found ≡ false
    → ((moment : ℕ) → reply ≡ reply_text (table_of acts) act.command moment) → reply ≡ act.reply → MayFollow acts act
may_follow acts act None reply is none replies same = record { is_new = find_none act.run act.issue acts (sym is); replied = sym same ∙ replies act.moment }
may_follow acts act (Some x) reply is none replies same = let e : true ≡ false = none in absurd (cc)
