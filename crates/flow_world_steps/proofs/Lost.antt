-- Commands that were put, or lost.
use Rattle.std.proofs.Common.{◌≡◌, ◌⊎◌, inl, inr, ℕ, ◌+◌, ◌≤◌, List, [], ◌∷◌, ◌++◌, length, refl, sym, subst, ap, arith}
use Rattle.std.specs.Prelude.{Option}
use Rattle.std.proofs.lemmas.Bool.{cases_lt}
use Rattle.std.proofs.lemmas.List.{length-append}
use Rattle.cacao_site.specs.Counts.{Rose, last_count}
use Rattle.cacao_site.specs.LinkCalls.{GainsAll}
use Rattle.cacao_site.specs.SiteCalls.{Puts}
use Rattle.cacao_site.specs.View.{CountsView, LinkView, SiteView}
use Rattle.cacao_site.specs.declared.parcel.Parcel.{Parcel}
use Rattle.run_records.specs.declared.record.Record.{Record}
use Rattle.flow_world_steps.specs.Appends.{Tries}
use Rattle.flow_world_steps.specs.Appends.Tries.{done, failed, limited}
use Rattle.flow_world_steps.specs.Link.{EachPutsOrLost, PutsOrLost, commands_of}
use Rattle.flow_world_steps.specs.Sides.{times}
use Rattle.flow_world_steps.specs.Steps.{PutsCommand, Step}
use Rattle.flow_world_steps.specs.Steps.Step.{opens_clock, finds_run_used, asks_clock, finds_late, begins, moves, upgrades, tells, expires, says, fails_to_say}
use Rattle.flow_world_steps.specs.Steps.Step.{puts_first, resends, takes, finds_none, fails_to_take, drops, replies, ignores_reply, acts_on, repeats_reply, fails_to_act, wants_memory_now}
use Rattle.flow_world_steps.specs.Steps.Steps.{nothing, and_then}
use Rattle.flow_world_steps.specs.Worlds.{Notes, World}
use Rattle.flow_world_steps.proofs.Adding.{fails_counts}
use Rattle.flow_world_steps.proofs.Growth.{gains_one, gains_same, gains_then}
use Rattle.flow_world_steps.proofs.Put.{added, commands_more, own_command, times_more}
use Rattle.flow_world_steps.proofs.Agreement.{steps_run}
use Rattle.flow_world_steps.proofs.Spoken.{fails_said}
use Rattle.flow_world_steps.proofs.Failing.{fails_notes}

times_append : (issue : ℕ) (xs ys : List ℕ) → times issue (xs ++ ys) ≡ times issue xs + times issue ys
times_append issue [] ys = omega arith
times_append issue (x ∷ xs) ys = let rest = times_append issue xs ys in omega (arith, rest)

-- no command was put
pub none : (old new : World) → new.site.link.puts ≡ old.site.link.puts → new.notes.put ≡ old.notes.put → old.site.counts.mishaps ≤ new.site.counts.mishaps → PutsOrLost old new
none old new puts notes later = record {
  put = [];
  puts = gains_same old.site.link.puts new.site.link.puts puts;
  lost = [];
  later = later;
  few = inl (omega (arith, later));
  each = λ issue. omega (arith, ap (times issue) notes);
}

same_count : (old new : SiteView) → new.counts.mishaps ≡ old.counts.mishaps → old.counts.mishaps ≤ new.counts.mishaps
same_count old new e = omega (arith, e)

counts_count : (old new : SiteView) → new.counts ≡ old.counts → old.counts.mishaps ≤ new.counts.mishaps
counts_count old new e = same_count old new (ap (λ (c : CountsView). c.mishaps) e)

link_puts : (old new : SiteView) → new.link ≡ old.link → new.link.puts ≡ old.link.puts
link_puts old new e = ap (λ (l : LinkView). l.puts) e

site_puts : (old new : SiteView) → new ≡ old → new.link.puts ≡ old.link.puts
site_puts old new e = ap (λ (s : SiteView). s.link.puts) e

site_count : (old new : SiteView) → new ≡ old → old.counts.mishaps ≤ new.counts.mishaps
site_count old new e = counts_count old new (ap (λ (s : SiteView). s.counts) e)

tried : (IsNext : Record → Type 0) (old new : World) → Tries IsNext old new → PutsOrLost old new
tried IsNext old new (done is) =
    none old new (link_puts old.site new.site is.appends.adds.offers.file.rest.link) (ap (λ (n : Notes). n.put) is.notes) (counts_count old.site new.site is.appends.adds.offers.file.rest.counts)
tried IsNext old new (failed is) =
    none old new (link_puts old.site new.site is.refuses.0.0.file.rest.link) (ap (λ (n : Notes). n.put) is.notes) (counts_count old.site new.site is.refuses.0.0.file.rest.counts)
tried IsNext old new (limited what is) = none old new (site_puts old.site new.site is.refuses.0.2) (ap (λ (n : Notes). n.put) is.notes) (site_count old.site new.site is.refuses.0.2)

-- the count of one that was lost
rose : (old new : ℕ) → Rose old new → (old + 1 ≤ new) ⊎ (last_count ≤ new)
rose old new is = elim (cases_lt old last_count) [
  | inl below ↦ inl (omega (arith, is, below))
  | inr past ↦ inr (omega (arith, is, past))
]

command : (old new : World) (issue : ℕ) → PutsCommand issue old new → PutsOrLost old new
command old new issue is =
    let notes : new.notes.put ≡ old.notes.put ++ issue ∷ [] = ap (λ (n : Notes). n.put) is.notes in
    elim is.sends.put.puts [
      | inl gained ↦ record {
        put = (new.site.disk.beat, _) ∷ [];
        puts = gains_one old.site.link.puts new.site.link.puts _ gained;
        lost = [];
        later = is.sends.put.mishaps;
        few = inl (omega (arith, is.sends.put.mishaps));
        each = λ i. omega (arith, ap (times i) notes, times_more i old.notes.put issue, own_command old.engine.history issue is.sends.it i);
      }
      | inr gone ↦ record {
        put = [];
        puts = gains_same old.site.link.puts new.site.link.puts gone.0;
        lost = issue ∷ [];
        later = is.sends.put.mishaps;
        few = rose old.site.counts.mishaps new.site.counts.mishaps gone.1;
        each = λ i. omega (arith, ap (times i) notes, times_more i old.notes.put issue);
      }
    ]

-- a reply that was put, or lost
reply : (parcel : Parcel) (old new : World) (mid : SiteView) → mid.link.puts ≡ old.site.link.puts → mid.counts ≡ old.site.counts → Puts parcel mid new.site → new.notes.put ≡ old.notes.put → PutsOrLost old new
reply parcel old new mid same counts puts notes =
    let more = added parcel mid new.site puts in
    let later : old.site.counts.mishaps ≤ new.site.counts.mishaps = omega (arith, puts.mishaps, ap (λ (c : CountsView). c.mishaps) counts) in
    record {
      put = more.put;
      puts = subst (λ (o : Option (List (ℕ × Parcel))). GainsAll o more.put new.site.link.puts) same more.puts;
      lost = [];
      later = later;
      few = inl (omega (arith, later));
      each = λ i. omega (arith, ap (times i) notes);
    }

pub step_loses : (old new : World) → Step old new → PutsOrLost old new
step_loses old new (opens_clock answer is) = none old new is.goes.reaches.puts (ap (λ (n : Notes). n.put) is.goes.notes) (same_count old.site new.site is.goes.reaches.mishaps)
step_loses old new (finds_run_used agent is) = none old new (site_puts old.site new.site is.only.site) (ap (λ (n : Notes). n.put) is.only.notes) (site_count old.site new.site is.only.site)
step_loses old new (asks_clock moment answer is) = none old new is.goes.reaches.puts (ap (λ (n : Notes). n.put) is.goes.notes) (same_count old.site new.site is.goes.reaches.mishaps)
step_loses old new (finds_late moment is) = none old new (site_puts old.site new.site is.only.site) (ap (λ (n : Notes). n.put) is.only.notes) (site_count old.site new.site is.only.site)
step_loses old new (begins is) = tried _ old new is.tries
step_loses old new (moves is) = tried _ old new is.tries
step_loses old new (upgrades issue told is) = tried _ old new is.tries
step_loses old new (tells issue told is) = tried _ old new is.tries
step_loses old new (expires issue is) = tried _ old new is.tries
step_loses old new (says bytes is) = none old new is.speaks.only.puts (ap (λ (n : Notes). n.put) is.speaks.notes) (same_count old.site new.site is.speaks.only.mishaps)
step_loses old new (fails_to_say bytes is) = none old new is.speaks.only.puts (ap (λ (n : Notes). n.put) is.speaks.notes) (same_count old.site new.site is.speaks.only.mishaps)
step_loses old new (puts_first issue is) = command old new issue is.puts
step_loses old new (resends issue is) = command old new issue is.puts
step_loses old new (takes parcel is) = none old new is.only.puts (ap (λ (n : Notes). n.put) is.notes) (same_count old.site new.site is.only.mishaps)
step_loses old new (finds_none is) = none old new is.only.puts (ap (λ (n : Notes). n.put) is.notes) (same_count old.site new.site is.only.mishaps)
step_loses old new (fails_to_take is) = none old new is.only.puts (ap (λ (n : Notes). n.put) is.notes) (same_count old.site new.site is.only.mishaps)
step_loses old new (drops beat parcel is) = none old new (site_puts old.site new.site is.site) (ap (λ (n : Notes). n.put) is.ignores.notes) (site_count old.site new.site is.site)
step_loses old new (replies beat parcel is) = tried _ old new is.tries
step_loses old new (ignores_reply beat parcel is) = none old new (site_puts old.site new.site is.site) (ap (λ (n : Notes). n.put) is.ignores.notes) (site_count old.site new.site is.site)
step_loses old new (acts_on beat parcel v w is) = reply _ old new is.acts.between (link_puts old.site is.acts.between is.acts.offers.adds.file.rest.link) is.acts.offers.adds.file.rest.counts is.acts.puts (ap (λ (n : Notes). n.put) is.notes)
step_loses old new (repeats_reply beat parcel v w is) = reply _ old new old.site refl refl is.repeats.puts (ap (λ (n : Notes). n.put) is.ignores.notes)
step_loses old new (fails_to_act beat parcel v w error cause is) = none old new (link_puts old.site new.site (fails_said v parcel old.site.clock.now old.site new.site error is.refuses.site)) (ap (λ (n : Notes). n.put) (fails_notes error parcel v old new is.notes)) (counts_count old.site new.site (fails_counts v parcel old.site.clock.now old.site new.site error is.refuses.site))
step_loses old new (wants_memory_now is) = none old new (site_puts old.site new.site is.only.site) (ap (λ (n : Notes). n.put) is.only.notes) (site_count old.site new.site is.only.site)

few-trans : (a b c m n : ℕ) → (a + m ≤ b) ⊎ (last_count ≤ b) → (b + n ≤ c) ⊎ (last_count ≤ c) → b ≤ c → (a + (m + n) ≤ c) ⊎ (last_count ≤ c)
few-trans a b c m n p (inr full) later = inr full
few-trans a b c m n (inl p) (inl q) later = inl (omega (arith, p, q))
few-trans a b c m n (inr full) (inl q) later = inr (omega (arith, full, later))

pub lost-trans : (a b c : World) → b.engine.history.seen.run ≡ a.engine.history.seen.run → PutsOrLost a b → PutsOrLost b c → PutsOrLost a c
lost-trans a b c same_run p q = record {
  put = p.put ++ q.put;
  puts = gains_then a.site.link.puts b.site.link.puts c.site.link.puts p.put q.put p.puts q.puts;
  lost = p.lost ++ q.lost;
  later = omega (arith, p.later, q.later);
  few = subst (λ (n : ℕ). (a.site.counts.mishaps + n ≤ c.site.counts.mishaps) ⊎ (last_count ≤ c.site.counts.mishaps)) (sym (length-append p.lost q.lost))
      (few-trans a.site.counts.mishaps b.site.counts.mishaps c.site.counts.mishaps (length p.lost) (length q.lost) p.few q.few q.later);
  each = λ issue. omega (arith, commands_more a.engine.history.seen.run issue p.put q.put, times_append issue p.lost q.lost, p.each issue, q.each issue, ap (λ (r : ℕ). commands_of r issue q.put) same_run);
}

pub steps_put_or_lose : EachPutsOrLost
steps_put_or_lose a b nothing = none a a refl refl (omega arith)
steps_put_or_lose a b (and_then {mid} steps step) = lost-trans a mid b (steps_run a mid steps) (steps_put_or_lose a mid steps) (step_loses mid b step)
