-- Where the parcels taken are told, what would pass a limit excludes that the run waits for an operator alone, and that the session
-- was flooded.
use Rattle.std.proofs.Common.{◌≡◌, ◌≢◌, ◌⊎◌, inl, inr, ◌∙◌, refl, sym, ap, subst, arith, ℕ, zero, suc, Bool, true, false, cond, List, [], ◌∷◌, ◌++◌, length, Option, Some, None}
use Rattle.std.specs.Prelude.{Contains, IfSome, IsSome, ◌==◌, ◌&&◌, not, nat_eq, option_and_then, slice_get, if◌then◌else◌}
use Rattle.std.specs.List.{flat_map}
use Rattle.std.proofs.lemmas.Bool.{false≢true, true≢false}
use Rattle.std.proofs.lemmas.List.Elements.{All-contains, Contains-push}
use Rattle.std.proofs.lemmas.Option.{none-some}
use Rattle.cacao_site.specs.View.{SiteView}
use Rattle.cacao_site.specs.declared.parcel.Parcel.{Parcel}
use Rattle.run_records.specs.Fields.{◌>>=◌}
use Rattle.run_records.specs.declared.act.Act.{Act}
use Rattle.run_records.specs.declared.record.Record.{Record}
use Rattle.run_records.specs.declared.record.Record.TheVariants as entry
use Rattle.flow_core.specs.Views.{View, taken}
use Rattle.flow_core_rules.specs.Changes.{Waiting, change, edits_of, expire, expired, is_in_time, is_waiting, moment_of, waiting_at}
use Rattle.flow_core_rules.specs.Edits.{Edit}
use Rattle.flow_core_rules.specs.Givens.{Given}
use Rattle.flow_core_rules.specs.Moves.{deadline_of, deadlines, deadlines_from, delays, due, has_deadline, least}
use Rattle.flow_core_rules.specs.State.{Shown}
use Rattle.flow_core_rules.specs.declared.issues.Issue.{Issue}
use Rattle.flow_core_rules.proofs.HereLemmas.{IsWaitingAt, waiting_known}
use Rattle.flow_engine_answers.specs.declared.answers.OperatorAnswer.{OperatorAnswer}
use Rattle.flow_engine_answers.proofs.AnswerLawLemmas.{answers_are_one}
use Rattle.flow_engine.specs.EngineCalls.{IsWaiting}
use Rattle.flow_laws.proofs.OneList.{same_acts, same_records}
use Rattle.flow_world_steps.specs.Handled.{IsCommand, one_reply}
use Rattle.flow_world_steps.specs.Turns.{answer_for}
use Rattle.flow_world_laws.proofs.AcceptLemmas.{accepted-one}
use Rattle.flow_world_laws.specs.Returned.{ReadsAsRun}
use Rattle.flow_world_laws.proofs.Returning.{reads_as_one_run}
use Rattle.cacao_cli_session_laws.specs.Returning.{ActsOnAll, AsksSo, ComesInTurn, HasActFor, IsIdleNow, IsLateSo, IsOfEnabledMove, IsRepliedLast, IsTakenLast, IsToldNext, NextActPasses, NextPasses, PassesInHand, ReadsSo, WouldPassSo}
use Rattle.cacao_cli_ends.specs.Work.{Start, bytes_of}
use Rattle.cacao_cli_session_laws.proofs.ActedLemmas.{AllSince}

-- ---- an issue of a filter that waits has a deadline

none-least : (ns : List ℕ) → least ns ≡ None → ns ≡ []
none-least [] e = refl
none-least (n ∷ ns) e = absurd (none-some _ (sym e))

none-behind : (xs ys : List ℕ) → xs ++ ys ≡ [] → ys ≡ []
none-behind [] ys e = e
none-behind (x ∷ xs) ys e = absurd (cc)

none-of : (ds : List (ℕ × ℕ)) → flat_map (λ (d : ℕ × ℕ). d.0 ∷ []) ds ≡ [] → ds ≡ []
none-of [] e = refl
none-of (d ∷ ds) e = absurd (let f : d.0 ∷ flat_map (λ (d : ℕ × ℕ). d.0 ∷ []) ds ≡ [] = e in cc)

no-deadline : (s : Shown) (n : ℕ) (issues : List Issue) (k : ℕ) (it : Issue) → deadlines_from s n issues ≡ [] → slice_get issues k ≡ Some it → has_deadline it ≡ false
no-deadline s n [] k it e there = absurd (none-some it there)
no-deadline s n (x ∷ xs) k it e there = by (has_deadline x) refl e k there (λ (j : ℕ) f after. no-deadline s (suc n) xs j it f after)
  where
    same : (a b : Issue) → Some a ≡ Some b → a ≡ b
    same a b h = cc

    by : (b : Bool) → has_deadline x ≡ b → cond b ((deadline_of s x, n) ∷ deadlines_from s (suc n) xs) (deadlines_from s (suc n) xs) ≡ [] → (k : ℕ) → slice_get (x ∷ xs) k ≡ Some it
        → ((j : ℕ) → deadlines_from s (suc n) xs ≡ [] → slice_get xs j ≡ Some it → has_deadline it ≡ false) → has_deadline it ≡ false
    by true is e k there rest = absurd (let f : (deadline_of s x, n) ∷ deadlines_from s (suc n) xs ≡ [] = e in cc)
    by false is e zero there rest = ap has_deadline (sym (same x it there)) ∙ is
    by false is e (suc k) there rest = rest k e there

waiting-due : (s : Shown) (issue : ℕ) (it : Issue) → IsWaiting s issue it → due s ≡ None → ⊥
waiting-due s issue it w none = false≢true (sym (no-deadline s 0 s.lists.issues issue it empty w.there) ∙ stands)
  where
    other : (a b : ℕ) → a ≢ b → nat_eq a b ≡ false
    other a b apart = grind arith

    both : (a b : Bool) → a ≡ true → b ≡ false → (a && not b) ≡ true
    both true false e f = refl
    both true true e f = absurd (true≢false f)
    both false b e f = absurd (false≢true e)

    stands : has_deadline it ≡ true
    stands = both (is_waiting it.phase) (nat_eq it.agent 0) w.waits (other it.agent 0 w.of_filter)

    empty : deadlines_from s 0 s.lists.issues ≡ []
    empty = none-of (deadlines s) (none-behind (delays s) (flat_map (λ (d : ℕ × ℕ). d.0 ∷ []) (deadlines s)) (none-least _ none))

-- an Expire is of such an issue
expire-waits : (s : Shown) (now n : ℕ) (edits : List Edit) → expire s now n ≡ Some edits → (it : Issue) × IsWaiting s n it
expire-waits s now n edits is = by (waiting_at s now n) (waiting_known s now n) is
  where
    differs : (a b : ℕ) → nat_eq a b ≡ false → a ≢ b
    differs a b h = grind arith

    at : (w : Waiting) → IsWaitingAt s now n w → (b : Bool) → nat_eq (w.issue).agent 0 ≡ b → option_and_then (expired n) (cond b None (Some w)) ≡ Some edits → (it : Issue) × IsWaiting s n it
    at w known true zero_ e = absurd (none-some edits e)
    at w known false not_ e = (w.issue, record { there = known.issue_is; waits = known.waits; of_filter = differs (w.issue).agent 0 not_ })

    by : (o : Option Waiting) → IfSome o (IsWaitingAt s now n) → option_and_then (expired n) (o >>= (λ (w : Waiting). if (w.issue).agent == 0 then None else Some w)) ≡ Some edits → (it : Issue) × IsWaiting s n it
    by None known e = absurd (none-some edits e)
    by (Some w) known e = at w known (nat_eq (w.issue).agent 0) refl e

-- ---- records of a run that has begun

change-of : (v : View) (r : Record) (edits : List Edit) → (v.count ≡ 0 → ⊥) → taken v r ≡ Some edits → edits_of v.seen r ≡ Some edits
change-of v r edits begun e = by (nat_eq v.count 0) _ refl e
  where
    same : (a b : ℕ) → nat_eq a b ≡ true → a ≡ b
    same a b h = grind arith

    in-time : (b : Bool) → cond b (edits_of v.seen r) None ≡ Some edits → edits_of v.seen r ≡ Some edits
    in-time true f = f
    in-time false f = absurd (none-some edits f)

    by : (b : Bool) (other : Option (List Edit)) → nat_eq v.count 0 ≡ b → cond (not b) (change v.seen r) other ≡ Some edits → edits_of v.seen r ≡ Some edits
    by true other is f = absurd (begun (same v.count 0 is))
    by false other is f = in-time (is_in_time v.seen (moment_of r)) f

no-records : (records : List Record) → length records ≡ 0 → records ≡ []
no-records [] e = refl
no-records (r ∷ rs) e = absurd (omega (arith, e))

-- ---- one reading of the files

module _ (start : Start) (old new : SiteView) where
  one-seen : (a b : ReadsSo start None new) → a.seen ≡ b.seen
  one-seen a b = reads_as_one_run a.given start.run new a.seen b.seen a.reads
      (subst (λ (g : Given). ReadsAsRun g start.run new b.seen) (accepted-one start.books start.bind b.given a.given b.accepted a.accepted) b.reads)

  one-run : (a b : ReadsSo start None new) → a.reads.records ≡ b.reads.records
  one-run a b = same_records (new.disk.reads 0) a.reads.records b.reads.records a.reads.reads b.reads.reads

  -- ---- the act of the command taken last

  last-of : (P : ℕ × Parcel → Type 0) (parcel : Parcel) (o n : Option (List (ℕ × Parcel))) → IsSome o → IsSome n → IsTakenLast parcel o n → AllSince P o n → (beat : ℕ) × P (beat, parcel)
  last-of P parcel None n some more taken all = absurd (false≢true some)
  last-of P parcel (Some xs) None some more taken all = absurd (false≢true more)
  last-of P parcel (Some xs) (Some ys) some more taken all =
      (taken.1, All-contains P (taken.0 ++ (taken.1, parcel) ∷ []) (taken.1, parcel) (all (taken.0 ++ (taken.1, parcel) ∷ []) taken.2) (Contains-push taken.0 (taken.1, parcel)))

  pub act-not : IsSome old.link.taken → IsSome new.link.taken → ActsOnAll old new → NextActPasses start old new → ⊥
  act-not some more all p =
      let found = last-of (λ (e : ℕ × Parcel). IsCommand e.1 → HasActFor e.1 new) p.parcel old.link.taken new.link.taken some more p.taken_last all in
      let has : HasActFor p.parcel new = found.1 p.is_command in
      let same : has.acts ≡ p.acts = same_acts (new.disk.reads p.parcel.agent) has.acts p.acts has.are p.are in
      All-contains (λ (act : Act). act.run ≡ p.parcel.run → act.issue ≢ p.parcel.issue) p.acts has.act p.is_new
      (subst (λ (l : List Act). Contains l has.act) same has.has.has) has.has.of_run has.has.of_issue

  -- ---- where it waits for an operator alone

  module _ (a : AsksSo start old new) (n : NextPasses start old new) where
    same : n.could.goes_on.seen ≡ a.may.goes_on.seen
    same = one-seen n.could.goes_on a.may.goes_on

    idle : IsIdleNow start n.could.goes_on.seen new.clock.now
    idle = subst (λ (s : Shown). IsIdleNow start s new.clock.now) (sym same) a.idle

    nothing-due : due n.could.goes_on.seen ≡ None
    nothing-due = ap due same ∙ a.nothing_due

    begun : length n.could.goes_on.reads.records ≡ 0 → ⊥
    begun none = a.may.begun (one-run a.may.goes_on n.could.goes_on ∙ no-records n.could.goes_on.reads.records none)

    move-not : (r : Record) → IsOfEnabledMove n.could.goes_on.seen new.clock.now r → ⊥
    move-not r m = none-some m.0 (sym idle.no_move ∙ m.1)

    told-not : (issue : ℕ) (told : OperatorAnswer) → IsToldNext start n.could.goes_on.seen new.clock.now issue told → ⊥
    told-not issue told t =
        let answers : t.answers ≡ idle.answers = answers_are_one (bytes_of start.answers) start.run t.answers idle.answers t.are idle.are in
        none-some told (sym (subst (λ (l : List OperatorAnswer). answer_for l issue ≡ None) (sym answers) (idle.unanswered issue t.it t.there t.waits)) ∙ t.first)

    edits-are : edits_of n.could.goes_on.seen n.next ≡ Some n.edits
    edits-are = change-of (record { count = length n.could.goes_on.reads.records; seen = n.could.goes_on.seen; plan = None }) n.next n.edits begun n.takes

    by : (r : Record) → ComesInTurn start old.link.taken new.link.taken n.could.goes_on.seen new.clock.now r → edits_of n.could.goes_on.seen r ≡ Some n.edits → ⊥
    by (entry.Begin run moment books bind) turn e = none-some n.edits e
    by (entry.Walk task moment) turn e = move-not (entry.Walk task moment) turn
    by (entry.Send task issue agent moment bytes) turn e = move-not (entry.Send task issue agent moment bytes) turn
    by (entry.Reply issue moment status rule text) turn e = waiting-due n.could.goes_on.seen issue turn.it turn.waiting nothing-due
    by (entry.Expire issue moment) turn e = let found = expire-waits n.could.goes_on.seen moment issue n.edits e in waiting-due n.could.goes_on.seen issue found.0 found.1 nothing-due
    by (entry.Upgrade version moment) (inl turn) e = move-not (entry.Upgrade version moment) turn
    by (entry.Upgrade version moment) (inr (issue, told, turn)) e = told-not issue told turn
    by (entry.Ask task issue moment bytes) turn e = move-not (entry.Ask task issue moment bytes) turn
    by (entry.Told issue moment status text) turn e = told-not issue turn.0 turn.1

    next-not : ⊥
    next-not = by n.next n.in_turn edits-are

  -- no record comes next then, and nothing is due
  pub asked-past : AsksSo start old new → WouldPassSo start old new → IsLateSo start new ⊎ NextActPasses start old new
  asked-past a (inl late) = inl late
  asked-past a (inr (inl d)) = absurd (none-some d.at (sym a.nothing_due ∙ ap due (one-seen a.may.goes_on d.could.goes_on) ∙ d.due_is))
  asked-past a (inr (inr (inl n))) = absurd (next-not a n)
  asked-past a (inr (inr (inr p))) = inr p

  -- ---- where the session was flooded

  pub flooded-apart : IsSome old.link.taken → IsSome new.link.taken → ActsOnAll old new
      → ((r : ReadsSo start None new) (issue : ℕ) → (read : _) → IsRepliedLast start r.seen issue read old.link.taken new.link.taken → ⊥) → PassesInHand start old new → ⊥
  flooded-apart some more all none (inl (n, is)) = by n.next is n.in_turn
    where
      by : (r : Record) → one_reply r ≡ 1 → ComesInTurn start old.link.taken new.link.taken n.could.goes_on.seen new.clock.now r → ⊥
      by (entry.Begin run moment books bind) e turn = omega (arith, e)
      by (entry.Walk task moment) e turn = omega (arith, e)
      by (entry.Send task issue agent moment bytes) e turn = omega (arith, e)
      by (entry.Reply issue moment status rule text) e turn = none n.could.goes_on issue _ turn
      by (entry.Expire issue moment) e turn = omega (arith, e)
      by (entry.Upgrade version moment) e turn = omega (arith, e)
      by (entry.Ask task issue moment bytes) e turn = omega (arith, e)
      by (entry.Told issue moment status text) e turn = omega (arith, e)
  flooded-apart some more all none (inr p) = act-not some more all p
