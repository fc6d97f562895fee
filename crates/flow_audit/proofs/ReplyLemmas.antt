-- Replies, and the acts that they are of.
use Rattle.std.proofs.Common.{◌≡◌, inl, inr, ℕ, zero, suc, ◌<◌, List, [], ◌∷◌, ◌++◌, length, get_or, Some, refl, sym, ap, subst, ◌∙◌, arith}
use Rattle.std.specs.Prelude.{Contains, IfOk, Result, Ok, Err, slice_get, option_map}
use Rattle.std.proofs.lemmas.Bool.{cases_lt}
use Rattle.std.proofs.lemmas.Option.{get_or_from_slice_get, same_Some, slice_get_within}
use Rattle.std.proofs.lemmas.List.Elements.{All-contains, All-from_recursion}
use Rattle.run_records.specs.Ranges.{ActInRange}
use Rattle.run_records.specs.declared.record.Record.{Record}
use Rattle.run_records.specs.declared.record.Record.TheVariants as entry
use Rattle.run_records.specs.declared.act.Act.{Act}
use Rattle.slpf_rules_acts.specs.Acts.{AreActs, IsOther}
use Rattle.flow_core_rules.specs.declared.issues.Issue.{Issue}
use Rattle.flow_core_rules.specs.State.{Shown}
use Rattle.flow_core.specs.SetupLaws.{AcceptedIsRunnable}
use Rattle.flow_core.specs.Views.{View}
use Rattle.flow_laws.specs.Acts.{HasReply, ReadsAs}
use Rattle.flow_laws.specs.Images.{IsAgent}
use Rattle.flow_laws.specs.Journals.{run_of}
use Rattle.flow_audit.specs.Breaks.{HasItsAct, RepliesHaveActs}
use Rattle.flow_audit.specs.Files.{acts_of}
use Rattle.flow_audit.specs.Parts.{ActOnce, AreActFiles, HasAct, HasNoAct, HasTaken, IsActed, lists_of}
use Rattle.flow_audit.specs.declared.reading.ActFile.{ActFile}
use Rattle.flow_audit.proofs.FilterLemmas.{lists_at}
use Rattle.flow_audit.proofs.ListLemmas.{get_one, get_push, get_there, place_of}
use Rattle.flow_audit.proofs.SentLemmas.{issue_shown, run_is, sent}

-- ---- one act on an issue

same_place : (acts : List Act) (i j : ℕ) (x y : Act) → AreActs acts → slice_get acts i ≡ Some x → slice_get acts j ≡ Some y → x.run ≡ y.run → x.issue ≡ y.issue → i < j → ⊥
same_place acts i j x y are p q run issue lt =
    let a : get_or acts i x ≡ x = get_or_from_slice_get acts i x x p in
    let b : get_or acts j x ≡ y = get_or_from_slice_get acts j y x q in
    let other : IsOther (get_or acts i x) (get_or acts j x) = are.once i j x lt (slice_get_within acts j y q) in
    other (ap (λ (z : Act). z.run) a ∙ run ∙ ap (λ (z : Act). z.run) (sym b)) (ap (λ (z : Act). z.issue) a ∙ issue ∙ ap (λ (z : Act). z.issue) (sym b))

pub one_act : (acts : List Act) (x y : Act) → AreActs acts → Contains acts x → Contains acts y → x.run ≡ y.run → x.issue ≡ y.issue → x ≡ y
one_act acts x y are p q run issue =
    let i = place_of acts x p in
    let j = place_of acts y q in
    elim (cases_lt i.0 j.0) [
      | inl lt ↦ absurd (same_place acts i.0 j.0 x y are i.1 j.1 run issue lt)
      | inr ge ↦ elim (cases_lt j.0 i.0) [
        | inl lt ↦ absurd (same_place acts j.0 i.0 y x are j.1 i.1 (sym run) (sym issue) lt)
        | inr le ↦
            let same : i.0 ≡ j.0 = omega (arith, ge, le) in
            get_one acts j.0 x y (subst (λ m. slice_get acts m ≡ Some x) same i.1) j.1
      ]
    ]

-- the acts of a filter are those of one
pub acts_once : (filters : List ActFile) (agent : ℕ) → ActOnce filters → length filters ≡ 16 → IsAgent agent → AreActs (acts_of (lists_of filters) agent)
acts_once filters agent once many is = by agent is
  where
    by : (a : ℕ) → IsAgent a → AreActs (acts_of (lists_of filters) a)
    by zero h = absurd (omega (arith, h.0))
    by (suc k) h =
        let f = get_there filters k (omega (arith, h.1, many)) in
        subst AreActs (sym (lists_at filters k f.0 f.1)) (once k f.0 f.1)

-- ---- an issue and its act

issue_at : (seen : Shown) (issue : ℕ) → issue < length seen.lists.issues → (one : Issue) × (slice_get seen.lists.issues issue ≡ Some one)
issue_at seen issue lt = get_there seen.lists.issues issue lt

agent_is : (seen : Shown) (issue agent : ℕ) (one : Issue) → slice_get seen.lists.issues issue ≡ Some one → option_map (λ (i : Issue). i.agent) (slice_get seen.lists.issues issue) ≡ Some agent → one.agent ≡ agent
agent_is seen issue agent one there is = same_Some one.agent agent (ap (option_map (λ (i : Issue). i.agent)) (sym there) ∙ is)

-- the act that was found has the reply
pub acted_by : (seen : Shown) (filters : List ActFile) (issue agent : ℕ) (act : Act) (P : List ℕ → Type 0) → issue < length seen.lists.issues
    → option_map (λ (i : Issue). i.agent) (slice_get seen.lists.issues issue) ≡ Some agent → HasAct filters agent seen.run issue act → P act.reply → IsActed seen (acts_of (lists_of filters)) issue P
acted_by seen filters issue agent act P lt is has p =
    let one = issue_at seen issue lt in
    record {
      agent = agent;
      bytes = one.0.bytes;
      is_agent = has.is_agent;
      there = record { one = one.0; there = one.1; agent_is = agent_is seen issue agent one.0 one.1 is; bytes_are = refl };
      reply = record { act = act; has = has.has; of_run = has.of_run; of_issue = has.of_issue; reply = p };
    }

same_agent : (seen : Shown) (acts : ℕ → List Act) (issue agent : ℕ) (P : List ℕ → Type 0) → option_map (λ (i : Issue). i.agent) (slice_get seen.lists.issues issue) ≡ Some agent → (a : IsActed seen acts issue P) → a.agent ≡ agent
same_agent seen acts issue agent P is a = sym a.there.agent_is ∙ agent_is seen issue agent a.there.one a.there.there is

-- and no other act has
pub acted_only : (seen : Shown) (filters : List ActFile) (issue agent : ℕ) (act : Act) (P : List ℕ → Type 0) → ActOnce filters → length filters ≡ 16
    → option_map (λ (i : Issue). i.agent) (slice_get seen.lists.issues issue) ≡ Some agent → HasAct filters agent seen.run issue act → IsActed seen (acts_of (lists_of filters)) issue P → P act.reply
acted_only seen filters issue agent act P once many is has a =
    let acts : ℕ → List Act = acts_of (lists_of filters) in
    let same : a.agent ≡ agent = same_agent seen acts issue agent P is a in
    let mine : Contains (acts agent) a.reply.act = subst (λ g. Contains (acts g) a.reply.act) same a.reply.has in
    let e : a.reply.act ≡ act = one_act (acts agent) a.reply.act act (acts_once filters agent once many has.is_agent) mine has.has (a.reply.of_run ∙ sym has.of_run) (a.reply.of_issue ∙ sym has.of_issue) in
    subst (λ (x : Act). P x.reply) e a.reply.reply

pub acted_none : (seen : Shown) (filters : List ActFile) (issue agent : ℕ) (P : List ℕ → Type 0) → option_map (λ (i : Issue). i.agent) (slice_get seen.lists.issues issue) ≡ Some agent
    → HasNoAct filters agent seen.run issue → IsActed seen (acts_of (lists_of filters)) issue P → ⊥
acted_none seen filters issue agent P is none a =
    let acts : ℕ → List Act = acts_of (lists_of filters) in
    let same : a.agent ≡ agent = same_agent seen acts issue agent P is a in
    none a.reply.act (record {
      is_agent = subst IsAgent same a.is_agent;
      has = subst (λ g. Contains (acts g) a.reply.act) same a.reply.has;
      of_run = a.reply.of_run;
      of_issue = a.reply.of_issue;
    })

-- ---- a Reply and its act

pub has_act : AcceptedIsRunnable → (records : List Record) (v : View) (acts : ℕ → List Act) (issue moment status rule : ℕ) (text : List ℕ) → HasTaken records v
    → IsActed v.seen acts issue (ReadsAs status rule text) → HasItsAct records acts (entry.Reply issue moment status rule text)
has_act law records v acts issue moment status rule text h a run of_run =
    let same : v.seen.run ≡ run = same_Some v.seen.run run (sym (run_is records v h) ∙ of_run) in
    record {
      agent = a.agent;
      bytes = a.bytes;
      is_agent = a.is_agent;
      sent = sent law records v issue a.agent a.bytes h a.is_agent a.there;
      reply = subst (λ n. HasReply (acts a.agent) n issue (ReadsAs status rule text)) same a.reply;
    }

pub lacks_act : AcceptedIsRunnable → (records : List Record) (v : View) (acts : ℕ → List Act) (issue moment status rule : ℕ) (text : List ℕ) → HasTaken records v
    → (IsActed v.seen acts issue (ReadsAs status rule text) → ⊥) → ¬ HasItsAct records acts (entry.Reply issue moment status rule text)
lacks_act law records v acts issue moment status rule text h unacted has =
    let a = has v.seen.run (run_is records v h) in
    unacted (record { agent = a.agent; bytes = a.bytes; is_agent = a.is_agent; there = issue_shown law records v issue a.agent a.bytes h a.sent; reply = a.reply })

-- ---- a loop over records

pub have_more : (records : List Record) (acts : ℕ → List Act) (some : List Record) (r : Record) → RepliesHaveActs records acts some → HasItsAct records acts r → RepliesHaveActs records acts (some ++ r ∷ [])
have_more records acts some r have has k q is = elim (get_push some r k q is) [
  | inl old ↦ have k q old.1
  | inr new ↦ subst (HasItsAct records acts) new.1 has
]

-- ---- results

pub if_weaker : {A E : Type 0} {P Q : A → Type 0} (r : Result A E) → ((x : A) → P x → Q x) → IfOk r P → IfOk r Q
if_weaker (Ok x) f h = f x h
if_weaker (Err e) f h = tt

-- the acts of a filter are in range
pub act_fits : (filters : List ActFile) (agent run issue : ℕ) (act : Act) → AreActFiles filters → length filters ≡ 16 → HasAct filters agent run issue act → ActInRange act
act_fits filters agent run issue act files many has = by agent has.is_agent has.has
  where
    by : (a : ℕ) → IsAgent a → Contains (acts_of (lists_of filters) a) act → ActInRange act
    by zero h c = absurd (omega (arith, h.0))
    by (suc k) h c =
        let f = get_there filters k (omega (arith, h.1, many)) in
        All-contains ActInRange f.0.acts.items act (All-from_recursion ActInRange f.0.acts.items (files k f.0 f.1).ranges) (subst (λ (l : List Act). Contains l act) (lists_at filters k f.0 f.1) c)
