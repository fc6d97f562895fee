-- What is due in a turn whose take found no parcel: the facts that first_due finds make it so, and no two of these hold of one world.
use Rattle.std.proofs.Common.{◌≡◌, ◌≢◌, inl, inr, ℕ, ◌<◌, ◌≤◌, true, false, List, [], refl, sym, ◌∙◌, subst, ap, arith, min}
use Rattle.std.specs.Prelude.{◌↔◌, Option, Some, None, IfSome}
use Rattle.std.specs.Option.{option_map_or}
use Rattle.std.proofs.lemmas.Bool.{cases_lt, false≢true}
use Rattle.std.proofs.lemmas.Option.{none-some}
use Rattle.base_dues.specs.Pairs.{IsFirstBy}
use Rattle.cacao_site.specs.Sound.{IsSound}
use Rattle.cacao_site.specs.View.{SiteView}
use Rattle.flow_core_rules.specs.Moves.{asks, due, enabled_move}
use Rattle.flow_engine_answers.specs.declared.answers.OperatorAnswer.{OperatorAnswer}
use Rattle.flow_world_steps.specs.EngineCalls.{put_deadline}
use Rattle.flow_world_steps.specs.EngineView.{EngineView}
use Rattle.flow_world_steps.specs.OpenIssues.{IsNextPut, IsNoLater, OpenIssues}
use Rattle.flow_world_steps.specs.Turns.{ComesNext, HasAnswer, IsIdle, IsOnTime, IsToBeResent, IsToBeTold, IsUntold, IsUpToDate, answer_for}
use Rattle.flow_world_steps.specs.Worlds.{World, looked}
use Rattle.flow_world_steps.proofs.Basics.{same_some}
use Rattle.flow_world_parts.specs.Dues.{IsDue}
use Rattle.flow_world_parts.specs.Leads.{IsAtWork, IsLeastTold, IsTold, MayAnswer, WhereLooked, at}
use Rattle.flow_world_parts.specs.declared.due.Due.{Due}
use Rattle.flow_world_parts.specs.declared.due.Due.TheVariants as kind
use Rattle.flow_world_parts.proofs.MoveSteps.{looks, on_time_of}
use Rattle.flow_world_parts.proofs.Standing.{sample}
use Rattle.flow_world_parts.proofs.Told.{never_unfound, to_be_told_of, told_of, untold_of}

-- ---- what is least is one

same_first : (moment : ℕ) (moment_of : ℕ → Option ℕ) (n m : ℕ) → IsFirstBy moment moment_of (Some n) → IsFirstBy moment moment_of (Some m) → n ≡ m
same_first moment moment_of n m a b = elim (cases_lt n m) [
  | inl lt ↦ absurd (false≢true (sym (b.1 n lt) ∙ a.0))
  | inr le ↦ elim (cases_lt m n) [
    | inl gt ↦ absurd (false≢true (sym (a.1 m gt) ∙ b.0))
    | inr ge ↦ omega (arith, le, ge)
  ]
]

same_moment : (k i n j : ℕ) → IsNoLater (k, i) (n, j) → IsNoLater (n, j) (k, i) → (k ≡ n) × (i ≡ j)
same_moment k i n j a b = elim a [
  | inl lt ↦ elim b [
    | inl gt ↦ absurd (omega (arith, lt, gt))
    | inr back ↦ let e = back.0 in absurd (omega (arith, lt, e))
  ]
  | inr same ↦ elim b [
    | inl gt ↦ let e = same.0 in absurd (omega (arith, gt, e))
    | inr back ↦ let le = same.1 in let ge = back.1 in (same.0, omega (arith, le, ge))
  ]
]

-- the next resend
pub same_put : (puts : OpenIssues) (k i n j : ℕ) → IsNextPut puts (Some (k, i)) → IsNextPut puts (Some (n, j)) → (k ≡ n) × (i ≡ j)
same_put puts k i n j a b = same_moment k i n j (a.1 j n b.0.0 b.0.1 b.0.2) (b.1 i k a.0.0 a.0.1 a.0.2)

pub no_put : (puts : OpenIssues) (k i : ℕ) → IsNextPut puts None → IsNextPut puts (Some (k, i)) → ⊥
no_put puts k i none a = none-some k (sym (none i a.0.0 a.0.1) ∙ a.0.2)

-- the lesser of it and what is due
same_least : (puts : OpenIssues) (d : ℕ) (a b : Option (ℕ × ℕ)) → IsNextPut puts a → IsNextPut puts b
    → option_map_or (λ (put : ℕ × ℕ). min d put.0) a d ≡ option_map_or (λ (put : ℕ × ℕ). min d put.0) b d
same_least puts d None None x y = refl
same_least puts d None (Some q) x y = absurd (no_put puts q.0 q.1 x y)
same_least puts d (Some p) None x y = absurd (no_put puts p.0 p.1 y x)
same_least puts d (Some p) (Some q) x y = ap (λ (n : ℕ). min d n) (same_put puts p.0 p.1 q.0 q.1 x y).0

-- ---- no two of a turn's works are due

module _ (w : World) where
  same_told : (n m : ℕ) (x y : OperatorAnswer) → IsToBeTold w n x → IsToBeTold w m y → n ≡ m
  same_told n m x y a b = elim (cases_lt n m) [
    | inl lt ↦ absurd (b.least n x lt a.has)
    | inr le ↦ elim (cases_lt m n) [
      | inl gt ↦ absurd (a.least m y gt b.has)
      | inr ge ↦ omega (arith, le, ge)
    ]
  ]

  -- a resend has come, or the moment of none has
  not_come : (n : ℕ) → IsToBeResent w n → IsUpToDate w → ⊥
  not_come n is up = by up.resend up.next up.later
    where
      by : (o : Option (ℕ × ℕ)) → IsNextPut w.engine.puts o → IfSome o (λ (put : ℕ × ℕ). w.site.clock.now < put.0) → ⊥
      by None none later = no_put w.engine.puts is.moment n none is.next
      by (Some put) next later =
          let same = (same_put w.engine.puts is.moment n put.0 put.1 is.next next).0 in
          let come = is.come in
          absurd (omega (arith, same, come, later))

  same_wait : (n m : ℕ) → ComesNext w n → ComesNext w m → n ≡ m
  same_wait n m x y =
      x.is
      ∙ ap (λ (d : ℕ). option_map_or (λ (put : ℕ × ℕ). min d put.0) x.up_to_date.resend d) (same_some (sym x.due_is ∙ y.due_is))
      ∙ same_least w.engine.puts y.at x.up_to_date.resend y.up_to_date.resend x.up_to_date.next y.up_to_date.next
      ∙ sym y.is

  one_due : (a b : Due) → IsDue a w → IsDue b w → a ≡ b
  one_due kind.Move kind.Move x y = refl
  one_due kind.Move kind.Upgrade x y = absurd (x.has_move y.to_be_told.idle.no_move)
  one_due kind.Move (kind.Tell m) x y = absurd (x.has_move y.to_be_told.idle.no_move)
  one_due kind.Move (kind.Expire m) x y = absurd (x.has_move y.untold.idle.no_move)
  one_due kind.Move (kind.Resend m) x y = absurd (x.has_move y.on_time.untold.idle.no_move)
  one_due kind.Move (kind.Wait m) x y = absurd (x.has_move y.up_to_date.on_time.untold.idle.no_move)
  one_due kind.Move (kind.Ask m) x y = absurd (x.has_move y.up_to_date.on_time.untold.idle.no_move)
  one_due kind.Upgrade kind.Move x y = absurd (y.has_move x.to_be_told.idle.no_move)
  one_due kind.Upgrade kind.Upgrade x y = refl
  one_due kind.Upgrade (kind.Tell m) x y = absurd (false≢true (sym x.earlier ∙ y.upgraded))
  one_due kind.Upgrade (kind.Expire m) x y = absurd (y.untold.none x.issue x.told x.to_be_told.has)
  one_due kind.Upgrade (kind.Resend m) x y = absurd (y.on_time.untold.none x.issue x.told x.to_be_told.has)
  one_due kind.Upgrade (kind.Wait m) x y = absurd (y.up_to_date.on_time.untold.none x.issue x.told x.to_be_told.has)
  one_due kind.Upgrade (kind.Ask m) x y = absurd (y.up_to_date.on_time.untold.none x.issue x.told x.to_be_told.has)
  one_due (kind.Tell n) kind.Move x y = absurd (y.has_move x.to_be_told.idle.no_move)
  one_due (kind.Tell n) kind.Upgrade x y = absurd (false≢true (sym y.earlier ∙ x.upgraded))
  one_due (kind.Tell n) (kind.Tell m) x y = ap (λ (n : ℕ). kind.Tell n) (same_told n m x.told y.told x.to_be_told y.to_be_told)
  one_due (kind.Tell n) (kind.Expire m) x y = absurd (y.untold.none n x.told x.to_be_told.has)
  one_due (kind.Tell n) (kind.Resend m) x y = absurd (y.on_time.untold.none n x.told x.to_be_told.has)
  one_due (kind.Tell n) (kind.Wait m) x y = absurd (y.up_to_date.on_time.untold.none n x.told x.to_be_told.has)
  one_due (kind.Tell n) (kind.Ask m) x y = absurd (y.up_to_date.on_time.untold.none n x.told x.to_be_told.has)
  one_due (kind.Expire n) kind.Move x y = absurd (y.has_move x.untold.idle.no_move)
  one_due (kind.Expire n) kind.Upgrade x y = absurd (x.untold.none y.issue y.told y.to_be_told.has)
  one_due (kind.Expire n) (kind.Tell m) x y = absurd (x.untold.none m y.told y.to_be_told.has)
  one_due (kind.Expire n) (kind.Expire m) x y = ap (λ (n : ℕ). kind.Expire n) (same_first w.site.clock.now (put_deadline w.engine) n m x.first y.first)
  one_due (kind.Expire n) (kind.Resend m) x y = absurd (false≢true (sym (y.on_time.none n) ∙ x.first.0))
  one_due (kind.Expire n) (kind.Wait m) x y = absurd (false≢true (sym (y.up_to_date.on_time.none n) ∙ x.first.0))
  one_due (kind.Expire n) (kind.Ask m) x y = absurd (false≢true (sym (y.up_to_date.on_time.none n) ∙ x.first.0))
  one_due (kind.Resend n) kind.Move x y = absurd (y.has_move x.on_time.untold.idle.no_move)
  one_due (kind.Resend n) kind.Upgrade x y = absurd (x.on_time.untold.none y.issue y.told y.to_be_told.has)
  one_due (kind.Resend n) (kind.Tell m) x y = absurd (x.on_time.untold.none m y.told y.to_be_told.has)
  one_due (kind.Resend n) (kind.Expire m) x y = absurd (false≢true (sym (x.on_time.none m) ∙ y.first.0))
  one_due (kind.Resend n) (kind.Resend m) x y = ap (λ (n : ℕ). kind.Resend n) (same_put w.engine.puts x.moment n y.moment m x.next y.next).1
  one_due (kind.Resend n) (kind.Wait m) x y = absurd (not_come n x y.up_to_date)
  one_due (kind.Resend n) (kind.Ask m) x y = absurd (not_come n x y.up_to_date)
  one_due (kind.Wait n) kind.Move x y = absurd (y.has_move x.up_to_date.on_time.untold.idle.no_move)
  one_due (kind.Wait n) kind.Upgrade x y = absurd (x.up_to_date.on_time.untold.none y.issue y.told y.to_be_told.has)
  one_due (kind.Wait n) (kind.Tell m) x y = absurd (x.up_to_date.on_time.untold.none m y.told y.to_be_told.has)
  one_due (kind.Wait n) (kind.Expire m) x y = absurd (false≢true (sym (x.up_to_date.on_time.none m) ∙ y.first.0))
  one_due (kind.Wait n) (kind.Resend m) x y = absurd (not_come m y x.up_to_date)
  one_due (kind.Wait n) (kind.Wait m) x y = ap (λ (n : ℕ). kind.Wait n) (same_wait n m x y)
  one_due (kind.Wait n) (kind.Ask m) x y = absurd (none-some x.at (sym y.asking.nothing_due ∙ x.due_is))
  one_due (kind.Ask n) kind.Move x y = absurd (y.has_move x.up_to_date.on_time.untold.idle.no_move)
  one_due (kind.Ask n) kind.Upgrade x y = absurd (x.up_to_date.on_time.untold.none y.issue y.told y.to_be_told.has)
  one_due (kind.Ask n) (kind.Tell m) x y = absurd (x.up_to_date.on_time.untold.none m y.told y.to_be_told.has)
  one_due (kind.Ask n) (kind.Expire m) x y = absurd (false≢true (sym (x.up_to_date.on_time.none m) ∙ y.first.0))
  one_due (kind.Ask n) (kind.Resend m) x y = absurd (not_come m y x.up_to_date)
  one_due (kind.Ask n) (kind.Wait m) x y = absurd (none-some y.at (sym x.asking.nothing_due ∙ y.due_is))
  one_due (kind.Ask n) (kind.Ask m) x y = ap (λ (n : ℕ). kind.Ask n) (same_some (sym x.asking.least ∙ y.asking.least))

-- ---- in all worlds that differ in nothing that it is told from

module _ (answers : List OperatorAnswer) (so : SiteView) (v : EngineView) where
  one_given : MayAnswer answers (sample answers 1 0)
  one_given = record { answers_are = refl; budget = omega arith }

  -- in one of them
  pub due_here : (a : Due) → WhereLooked (IsDue a) answers so v → IsDue a (at so v [] (sample answers 1 0) looked)
  due_here a is = is [] (sample answers 1 0) one_given

  -- what is due is so, and nothing else is
  pub exactly : (a : Due) → WhereLooked (IsDue a) answers so v → (b : Due) → (a ≡ b) ↔ WhereLooked (IsDue b) answers so v
  exactly a is b = (
    λ same. subst (λ (d : Due). WhereLooked (IsDue d) answers so v) same is,
    λ other. one_due (at so v [] (sample answers 1 0) looked) a b (due_here a is) (due_here b other),
  )

-- ---- from what was found

first_told : (v : EngineView) (answers : List OperatorAnswer) (issue : ℕ) → IsTold v answers issue → (told : OperatorAnswer) × (answer_for answers issue ≡ Some told)
first_told v answers issue is = by (answer_for answers issue) refl
  where
    by : (o : Option OperatorAnswer) → answer_for answers issue ≡ o → (told : OperatorAnswer) × (answer_for answers issue ≡ Some told)
    by None e = absurd (never_unfound v answers issue is e)
    by (Some told) e = (told, e)

module _ (answers : List OperatorAnswer) (so : SiteView) (v : EngineView) (now : ℕ) (sound : IsSound so) (work : IsAtWork v so) (is_now : now ≡ so.clock.now) where
  pub to_move : enabled_move v.history.seen now ≢ None → WhereLooked (IsDue kind.Move) answers so v
  to_move has filters notes given = record {
    has_looked = looks answers so v filters notes sound work given;
    has_move = subst (λ (n : ℕ). enabled_move v.history.seen n ≢ None) is_now has;
  }

  module _ (no_move : enabled_move v.history.seen now ≡ None) where
    idle : WhereLooked IsIdle answers so v
    idle filters notes given = record {
      has_looked = looks answers so v filters notes sound work given;
      no_move = subst (λ (n : ℕ). enabled_move v.history.seen n ≡ None) is_now no_move;
    }

    pub to_upgrade : (issue : ℕ) → IsLeastTold v answers (Some issue) → v.history.seen.lists.is_upgraded ≡ false → WhereLooked (IsDue kind.Upgrade) answers so v
    to_upgrade issue least earlier filters notes given =
        let first = first_told v answers issue least.0 in
        record {
          issue = issue;
          told = first.0;
          to_be_told = to_be_told_of answers so v idle issue first.0 least first.1 filters notes given;
          earlier = earlier;
        }

    pub to_tell : (issue : ℕ) → IsLeastTold v answers (Some issue) → v.history.seen.lists.is_upgraded ≡ true → WhereLooked (IsDue (kind.Tell issue)) answers so v
    to_tell issue least upgraded filters notes given =
        let first = first_told v answers issue least.0 in
        record {
          told = first.0;
          to_be_told = to_be_told_of answers so v idle issue first.0 least first.1 filters notes given;
          upgraded = upgraded;
        }

    module _ (none_told : IsLeastTold v answers None) where
      untold : WhereLooked IsUntold answers so v
      untold = untold_of answers so v idle none_told

      pub to_expire : (issue : ℕ) → IsFirstBy now (put_deadline v) (Some issue) → WhereLooked (IsDue (kind.Expire issue)) answers so v
      to_expire issue first filters notes given = record {
        untold = untold filters notes given;
        first = subst (λ (n : ℕ). IsFirstBy n (put_deadline v) (Some issue)) is_now first;
      }

      module _ (none_overdue : IsFirstBy now (put_deadline v) None) (resend : Option (ℕ × ℕ)) (next_put : IsNextPut v.puts resend) where
        on_time : WhereLooked IsOnTime answers so v
        on_time = on_time_of answers so v now untold none_overdue is_now

        pub to_resend : (moment issue : ℕ) → resend ≡ Some (moment, issue) → moment ≤ now → WhereLooked (IsDue (kind.Resend issue)) answers so v
        to_resend moment issue found come filters notes given = record {
          on_time = on_time filters notes given;
          moment = moment;
          next = subst (λ (o : Option (ℕ × ℕ)). IsNextPut v.puts o) found next_put;
          come = subst (λ (n : ℕ). moment ≤ n) is_now come;
        }

        module _ (later : IfSome resend (λ (put : ℕ × ℕ). now < put.0)) where
          later_than : IfSome resend (λ (put : ℕ × ℕ). so.clock.now < put.0)
          later_than = subst (λ (n : ℕ). IfSome resend (λ (put : ℕ × ℕ). n < put.0)) is_now later

          pub to_wait : (d moment : ℕ) → due v.history.seen ≡ Some d → moment ≡ option_map_or (λ (put : ℕ × ℕ). min d put.0) resend d
              → WhereLooked (IsDue (kind.Wait moment)) answers so v
          to_wait d moment due_is moment_is filters notes given = record {
            up_to_date = record { on_time = on_time filters notes given; resend = resend; next = next_put; later = later_than };
            at = d;
            due_is = due_is;
            is = moment_is;
          }

          pub to_ask : (issue : ℕ) → due v.history.seen ≡ None → asks v.history.seen ≡ Some issue → WhereLooked (IsDue (kind.Ask issue)) answers so v
          to_ask issue nothing_due least filters notes given = record {
            up_to_date = record { on_time = on_time filters notes given; resend = resend; next = next_put; later = later_than };
            asking = record { untold = untold filters notes given; nothing_due = nothing_due; least = least };
          }

-- ---- what the session then knows

module _ (answers : List OperatorAnswer) (so : SiteView) (v : EngineView) (now : ℕ) (is_now : now ≡ so.clock.now) where
  pub moves_now : WhereLooked (IsDue kind.Move) answers so v → enabled_move v.history.seen now ≢ None
  moves_now is = subst (λ (n : ℕ). enabled_move v.history.seen n ≢ None) (sym is_now) (due_here answers so v kind.Move is).has_move

  pub overdue_now : (issue : ℕ) → WhereLooked (IsDue (kind.Expire issue)) answers so v → IsFirstBy now (put_deadline v) (Some issue)
  overdue_now issue is = subst (λ (n : ℕ). IsFirstBy n (put_deadline v) (Some issue)) (sym is_now) (due_here answers so v (kind.Expire issue) is).first

  pub resent_now : (issue : ℕ) → WhereLooked (IsDue (kind.Resend issue)) answers so v → (moment : ℕ) × IsNextPut v.puts (Some (moment, issue)) × (moment ≤ now)
  resent_now issue is =
      let it = due_here answers so v (kind.Resend issue) is in
      (it.moment, it.next, subst (λ (n : ℕ). it.moment ≤ n) (sym is_now) it.come)

pub least_now : (answers : List OperatorAnswer) (so : SiteView) (v : EngineView) (issue : ℕ) → WhereLooked (IsDue (kind.Tell issue)) answers so v → IsLeastTold v answers (Some issue)
least_now answers so v issue is =
    let it = due_here answers so v (kind.Tell issue) is in
    (told_of v so [] (sample answers 1 0) answers issue it.told refl it.to_be_told.has, below it.to_be_told.least)
  where
    below : ((lower : ℕ) (other : OperatorAnswer) → lower < issue → HasAnswer (at so v [] (sample answers 1 0) looked) lower other → ⊥)
        → (lower : ℕ) → lower < issue → IsTold v answers lower → ⊥
    below least lower lt told =
        let first = first_told v answers lower told in
        least lower first.0 lt (record { it = told.waiting.it; there = told.waiting.there; waits = told.waiting.waits; first = first.1 })
