-- What a put and a move of the clock do to a site whose disk stays.
use Rattle.std.proofs.Common.{◌≡◌, inl, inr, ℕ, ◌≤◌, max, nat_lt, if◌then◌else◌, List, [], ◌∷◌, ◌++◌, replicate, refl, sym, ◌∙◌, ap, subst, arith}
use Rattle.std.specs.Prelude.{Option, Some, None}
use Rattle.std.proofs.lemmas.Bool.{le-ltb, lt-ltb}
use Rattle.std.proofs.lemmas.List.{append-nil}
use Rattle.std.proofs.lemmas.List.Elements.{All-push}
use Rattle.std.proofs.lemmas.List.Quantifiers.{all_pairs_push}
use Rattle.cacao_site.specs.Counts.{DidNotRise, last_count, next_count}
use Rattle.cacao_site.specs.DiskCalls.{KeepsDisk}
use Rattle.cacao_site.specs.LinkCalls.{Gains, GainsAll}
use Rattle.cacao_site.specs.SiteCalls.{LeavesDisk, Puts, Reaches}
use Rattle.cacao_site.specs.SayCalls.{KeepsTime, SaysOnly}
use Rattle.cacao_site.specs.Sound.{IsInTime}
use Rattle.cacao_site.specs.View.{CountsView, DiskView, LinkView, SiteView}
use Rattle.cacao_site_memory.specs.Weather.{arrivals, is_mishap}
use Rattle.cacao_site.specs.declared.parcel.Parcel.{Parcel}
use Rattle.cacao_site_memory.specs.declared.plan.Weather.{Weather}
use Rattle.cacao_site_memory.specs.declared.plan.Weather.TheVariants.{Deliver, Lose, Twice, Hold}
use Rattle.cacao_site.proofs.Beats.{goes_on-refl}

keeps-refl : (disk : DiskView) → KeepsDisk disk disk
keeps-refl disk = record {
  goes_on = goes_on-refl disk;
  stays = λ file. record { reads = refl; images = λ beat image from to. let now : beat ≡ disk.beat = omega (arith, from, to) in ap (λ n. disk.left file n image) now };
  written = refl;
  faults = refl;
}

pub leaves-same : (old new : SiteView) → new.disk ≡ old.disk → new.counts.says ≡ old.counts.says → LeavesDisk old new
leaves-same old new e says = record { disk = subst (λ (d : DiskView). KeepsDisk old.disk d) (sym e) (keeps-refl old.disk); calls = ap (λ (d : DiskView). d.calls) e; says = says }

gains-one : {T : Type 0} (old new : Option (List T)) (entry : T) → GainsAll old (entry ∷ []) new → Gains old entry new
gains-one (Some old) (Some new) entry h = h
gains-one None None entry h = h
gains-one (Some old) None entry h = h
gains-one None (Some new) entry h = h

rises : (old new : ℕ) → new ≡ next_count old → DidNotRise old new → ⊥
rises old new e h = omega (arith, e, h.0, h.1)

-- without a mishap one copy arrives
one-arrives : (weather : Weather) (parcel : Parcel) (old new : ℕ) (before later : Option (List Parcel)) → new ≡ (if is_mishap weather then next_count old else old)
    → GainsAll before (replicate (arrivals weather) parcel) later → DidNotRise old new → Gains before parcel later
one-arrives Deliver parcel old new before later e gains h = gains-one before later parcel gains
one-arrives Lose parcel old new before later e gains h = absurd (rises old new e h)
one-arrives Twice parcel old new before later e gains h = absurd (rises old new e h)
one-arrives (Hold until) parcel old new before later e gains h = absurd (rises old new e h)

no_fewer : (weather : Weather) (old new : ℕ) → old ≤ last_count → new ≡ (if is_mishap weather then next_count old else old) → old ≤ new
no_fewer Deliver old new le e = omega (arith, e)
no_fewer Lose old new le e = omega (arith, e, le)
no_fewer Twice old new le e = omega (arith, e, le)
no_fewer (Hold until) old new le e = omega (arith, e, le)

pub puts-carried : (weather : Weather) (parcel : Parcel) (old new : SiteView) → new.disk ≡ old.disk → KeepsTime old.clock new.clock → new.counts.says ≡ old.counts.says → new.counts.unsaid ≡ old.counts.unsaid → old.counts.mishaps ≤ last_count
    → new.counts.mishaps ≡ (if is_mishap weather then next_count old.counts.mishaps else old.counts.mishaps)
    → Gains old.link.puts (new.disk.beat, parcel) new.link.puts → GainsAll old.link.pending (replicate (arrivals weather) parcel) new.link.pending
    → new.link.taken ≡ old.link.taken → new.link.empty_takes ≡ old.link.empty_takes → new.link.said ≡ old.link.said → Puts parcel old new
puts-carried weather parcel old new disk time says unsaid fits mishaps puts pending taken empty said = record {
  disk = leaves-same old new disk says;
  time = time;
  unsaid = unsaid;
  mishaps = no_fewer weather _ _ fits mishaps;
  puts = inl puts;
  arrives = one-arrives weather parcel _ _ old.link.pending new.link.pending mishaps pending;
  pending = (arrivals weather, pending);
  taken = taken;
  empty_takes = empty;
  said = said;
}

gains-none : {T : Type 0} (o : Option (List T)) → GainsAll o [] o
gains-none (Some old) = sym (append-nil old)
gains-none None = tt

pub puts-lost : (parcel : Parcel) (old new : SiteView) → new.disk ≡ old.disk → KeepsTime old.clock new.clock → new.counts.says ≡ old.counts.says → new.counts.unsaid ≡ old.counts.unsaid → new.link ≡ old.link → old.counts.mishaps ≤ last_count → new.counts.mishaps ≡ next_count old.counts.mishaps → Puts parcel old new
puts-lost parcel old new disk time says unsaid link fits mishaps = record {
  disk = leaves-same old new disk says;
  time = time;
  unsaid = unsaid;
  mishaps = omega (arith, mishaps, fits);
  puts = inr (ap (λ (l : LinkView). l.puts) link, omega (arith, mishaps));
  arrives = λ h. absurd (rises _ _ mishaps h);
  pending = (0, subst (λ (o : Option (List Parcel)). GainsAll old.link.pending [] o) (sym (ap (λ (l : LinkView). l.pending) link)) (gains-none old.link.pending));
  taken = ap (λ (l : LinkView). l.taken) link;
  empty_takes = ap (λ (l : LinkView). l.empty_takes) link;
  said = ap (λ (l : LinkView). l.said) link;
}

pub reaches-from : (moment answer : ℕ) (more : List Parcel) (old new : SiteView) → new.disk ≡ old.disk → old.clock.now ≤ answer → new.clock.now ≡ answer → new.clock.asked ≡ moment → new.clock.furthest ≡ max old.clock.furthest moment
    → new.clock.shorts ≡ (if nat_lt answer moment then next_count old.clock.shorts else old.clock.shorts) → new.counts ≡ old.counts
    → new.link.puts ≡ old.link.puts → new.link.taken ≡ old.link.taken → new.link.empty_takes ≡ old.link.empty_takes → new.link.said ≡ old.link.said → GainsAll old.link.pending more new.link.pending → Reaches moment answer old new
reaches-from moment answer more old new disk later now asked furthest shorts counts puts taken empty said pending = record {
  disk = leaves-same old new disk (ap (λ (c : CountsView). c.says) counts);
  later = later;
  now = now;
  asked = asked;
  furthest = furthest;
  short = λ lt. shorts ∙ ap (λ b. if b then next_count old.clock.shorts else old.clock.shorts) (lt-ltb _ _ lt);
  reached = λ le. shorts ∙ ap (λ b. if b then next_count old.clock.shorts else old.clock.shorts) (le-ltb _ _ le);
  mishaps = ap (λ (c : CountsView). c.mishaps) counts;
  unsaid = ap (λ (c : CountsView). c.unsaid) counts;
  puts = puts;
  taken = taken;
  empty_takes = empty;
  said = said;
  pending = (more, pending);
}

-- a line was said or not
pub says-from : (old new : SiteView) → KeepsDisk old.disk new.disk → new.disk.calls ≡ old.disk.calls → old.counts.says ≤ last_count → new.counts.says ≡ next_count old.counts.says
    → new.link.puts ≡ old.link.puts → new.link.taken ≡ old.link.taken → new.link.empty_takes ≡ old.link.empty_takes → new.link.pending ≡ old.link.pending
    → KeepsTime old.clock new.clock → new.counts.mishaps ≡ old.counts.mishaps → old.counts.unsaid ≤ new.counts.unsaid → SaysOnly old new
says-from old new disk calls few says puts taken empty pending time mishaps unsaid = record {
  disk = disk;
  calls = calls;
  later = omega (arith, few, says);
  says = omega (arith, says);
  counted = λ told. says;
  puts = puts;
  taken = taken;
  empty_takes = empty;
  pending = pending;
  time = time;
  mishaps = mishaps;
  unsaid = unsaid;
}

-- the same entries, in time up to the same beat
pub in-time-same : {T : Type 0} (n m : ℕ) (old new : List (ℕ × T)) → n ≡ m → new ≡ old → IsInTime n (Some old) → IsInTime m (Some new)
in-time-same n m old new e is h = subst (λ k. IsInTime k (Some new)) e (subst (λ l. IsInTime n (Some l)) (sym is) h)

-- the same entries, in time up to a later beat
pub in-time-later : {T : Type 0} (n m : ℕ) (old new : List (ℕ × T)) → n ≤ m → new ≡ old → IsInTime n (Some old) → IsInTime m (Some new)
in-time-later {T} n m old new le e h = subst (λ (l : List (ℕ × T)). IsInTime m (Some l)) (sym e) (record { past = λ k d lt. let low = h.past k d lt in omega (arith, le, low); in_order = h.in_order })

-- one entry more, with that beat
pub in-time-push : {T : Type 0} (n at : ℕ) (old new : List (ℕ × T)) (entry : T) → at ≡ n → new ≡ old ++ (at, entry) ∷ [] → IsInTime n (Some old) → IsInTime n (Some new)
in-time-push {T} n at old new entry e is h = subst (λ l. IsInTime n (Some l)) (sym is) (record {
  past = All-push (λ (x : ℕ × T). x.0 ≤ n) old (at, entry) h.past (omega (arith, e));
  in_order = all_pairs_push (λ (x y : ℕ × T). x.0 ≤ y.0) old (at, entry) h.in_order (λ k d lt. let le = h.past k d lt in omega (arith, e, le));
})
