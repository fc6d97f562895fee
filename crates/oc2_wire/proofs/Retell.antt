-- Calls on a site are calls on it under another label, and with other counts of mishaps.
use Rattle.std.proofs.Common.{◌≡◌, inl, inr, ℕ, ◌≤◌, List, None, refl, sym, ◌∙◌, ap, subst, arith}
use Rattle.std.specs.Prelude.{Option}
use Rattle.cacao_site.specs.Counts.{DidNotRise, Rose}
use Rattle.cacao_site.specs.View.{CountsView, DiskView, LinkView, SiteView}
use Rattle.cacao_site.specs.DiskCalls.{CallsOn, EachBeat, GoesOn, KeepsDisk, OnlyFile, SameRest, StaysAt}
use Rattle.cacao_site.specs.LinkCalls.{Gains}
use Rattle.cacao_site.specs.SayCalls.{SaysOnly}
use Rattle.cacao_site.specs.SiteCalls.{LeavesDisk, Puts, Reaches, TakesOnly}
use Rattle.cacao_site.specs.declared.parcel.Parcel.{Parcel}
use Rattle.cacao_site.proofs.Beats.{goes_on-refl}
use Rattle.slpf_actuator.specs.ActuatorCalls.{Acts, MayAdd, MayHaveDone, Offers, Refuses, Repeats}
use Rattle.slpf_actuator.specs.ActuatorView.{ActuatorView, IsReady}
use Rattle.slpf_actuator.specs.declared.error.ActError.{ActError}
use Rattle.slpf_actuator.specs.declared.error.ActError.TheVariants as act_error
use Rattle.run_records.specs.declared.act.Act.{Act}
use Rattle.oc2_wire.specs.ReplyWires.{retell}

abbrev pub labeled : List ℕ → DiskView → DiskView
labeled label disk = record disk { label = label }

abbrev pub with_mishaps : ℕ → CountsView → CountsView
with_mishaps mishaps counts = record counts { mishaps = mishaps }

-- ---- the disk

pub on_as : (k l : List ℕ) (x y : DiskView) → l ≡ k → GoesOn x y → GoesOn (labeled k x) (labeled l y)
on_as k l x y same on = record { told = on.told; later = on.later; past = on.past; calls = on.calls; written = on.written; faults = on.faults; label = same }

pub stays_as : (k l : List ℕ) (x y : DiskView) (file : ℕ) → StaysAt x y file → StaysAt (labeled k x) (labeled l y) file
stays_as k l x y file stays = record { reads = stays.reads; images = stays.images }

pub keeps_as : (k l : List ℕ) (x y : DiskView) → l ≡ k → KeepsDisk x y → KeepsDisk (labeled k x) (labeled l y)
keeps_as k l x y same keeps = record {
  goes_on = on_as k l x y same keeps.goes_on;
  stays = λ file. stays_as k l x y file (keeps.stays file);
  written = keeps.written;
  faults = keeps.faults;
}

pub calls_as : (k l : List ℕ) (x y : DiskView) (file bytes : ℕ) → l ≡ k → CallsOn file bytes x y → CallsOn file bytes (labeled k x) (labeled l y)
calls_as k l x y file bytes same call = record {
  goes_on = on_as k l x y same call.goes_on;
  takes_beat = call.takes_beat;
  others = λ other ne. stays_as k l x y other (call.others other ne);
  calls = call.calls;
  written = call.written;
  counted = call.counted;
  handed = call.handed;
}

pub each_as : (k l : List ℕ) (x y : DiskView) (file : ℕ) (P : List ℕ → Type 0) → l ≡ k → EachBeat file x y P → EachBeat file (labeled k x) (labeled l y) P
each_as k l x y file P same each = record { goes_on = on_as k l x y same each.goes_on; each = each.each }

-- ---- the site

counts_as : (m n : ℕ) (a b : CountsView) → n ≡ m → b ≡ a → with_mishaps n b ≡ with_mishaps m a
counts_as m n a b lost e = ap (with_mishaps n) e ∙ ap (λ (k : ℕ). with_mishaps k a) lost

pub rest_as : (k l : List ℕ) (m n : ℕ) (x y : SiteView) → n ≡ m → SameRest x y → SameRest (retell k m x) (retell l n y)
rest_as k l m n x y lost rest = record { link = rest.link; clock = rest.clock; counts = counts_as m n x.counts y.counts lost rest.counts }

pub only_as : (k l : List ℕ) (m n : ℕ) (x y : SiteView) (file : ℕ) (P : List ℕ → Type 0) → l ≡ k → n ≡ m → OnlyFile file x y P → OnlyFile file (retell k m x) (retell l n y) P
only_as k l m n x y file P same lost only = record {
  each = each_as k l x.disk y.disk file P same only.each;
  others = λ other ne. stays_as k l x.disk y.disk other (only.others other ne);
  rest = rest_as k l m n x y lost only.rest;
}

leaves_as : (k l : List ℕ) (m n : ℕ) (x y : SiteView) → l ≡ k → LeavesDisk x y → LeavesDisk (retell k m x) (retell l n y)
leaves_as k l m n x y same leaves = record { disk = keeps_as k l x.disk y.disk same leaves.disk; calls = leaves.calls; says = leaves.says }

-- what a put asks of the counts of mishaps
pub record CountsPut (m n : ℕ) (parcel : Parcel) (x y : SiteView) : Type 0 where
  pub later : m ≤ n
  pub lost : y.link.puts ≡ x.link.puts → Rose x.counts.mishaps y.counts.mishaps → Rose m n
  pub arrives : DidNotRise m n → Gains x.link.pending parcel y.link.pending

pub puts_as : (k l : List ℕ) (m n : ℕ) (x y : SiteView) (parcel : Parcel) → l ≡ k → CountsPut m n parcel x y → Puts parcel x y → Puts parcel (retell k m x) (retell l n y)
puts_as k l m n x y parcel same counts puts = record {
  disk = leaves_as k l m n x y same puts.disk;
  time = puts.time;
  unsaid = puts.unsaid;
  mishaps = counts.later;
  puts = elim puts.puts [
    | inl gained ↦ inl gained
    | inr gone ↦ inr (gone.0, counts.lost gone.0 gone.1)
  ];
  arrives = counts.arrives;
  pending = puts.pending;
  taken = puts.taken;
  empty_takes = puts.empty_takes;
  said = puts.said;
}

pub says_as : (k l : List ℕ) (m n : ℕ) (x y : SiteView) → l ≡ k → n ≡ m → SaysOnly x y → SaysOnly (retell k m x) (retell l n y)
says_as k l m n x y same lost says = record {
  disk = keeps_as k l x.disk y.disk same says.disk;
  calls = says.calls;
  later = says.later;
  says = says.says;
  counted = says.counted;
  puts = says.puts;
  taken = says.taken;
  empty_takes = says.empty_takes;
  pending = says.pending;
  time = says.time;
  mishaps = lost;
  unsaid = says.unsaid;
}

pub reaches_as : (k l : List ℕ) (m n : ℕ) (x y : SiteView) (moment answer : ℕ) → l ≡ k → n ≡ m → Reaches moment answer x y → Reaches moment answer (retell k m x) (retell l n y)
reaches_as k l m n x y moment answer same lost reaches = record {
  disk = leaves_as k l m n x y same reaches.disk;
  later = reaches.later;
  now = reaches.now;
  asked = reaches.asked;
  furthest = reaches.furthest;
  short = reaches.short;
  reached = reaches.reached;
  mishaps = lost;
  unsaid = reaches.unsaid;
  puts = reaches.puts;
  taken = reaches.taken;
  empty_takes = reaches.empty_takes;
  said = reaches.said;
  pending = reaches.pending;
}

-- a take that takes nothing, and leaves all as it was
pub takes_none_at_all : (x : SiteView) → TakesOnly x x
takes_none_at_all x = record {
  disk = record {
    disk = record {
      goes_on = goes_on-refl x.disk;
      stays = λ file. record { reads = refl; images = λ beat image from to. let now : beat ≡ x.disk.beat = omega (arith, from, to) in ap (λ (n : ℕ). x.disk.left file n image) now };
      written = refl;
      faults = refl;
    };
    calls = refl;
    says = refl;
  };
  time = record { now = refl; asked = refl; furthest = refl; shorts = refl };
  unsaid = refl;
  mishaps = refl;
  puts = refl;
  said = refl;
}

-- ---- a filter

pub ready_as : (k : List ℕ) (m : ℕ) (v : ActuatorView) (x : SiteView) → IsReady v x → IsReady v (retell k m x)
ready_as k m v x ready = record { low = ready.low; high = ready.high; history = ready.history; images = ready.images }

adds_as : (k l : List ℕ) (m n : ℕ) (x y : SiteView) (v : ActuatorView) (act : Act) → l ≡ k → n ≡ m → MayAdd v act x y → MayAdd v act (retell k m x) (retell l n y)
adds_as k l m n x y v act same lost adds = record { file = only_as k l m n x y v.agent _ same lost adds.file; calls = adds.calls; written = adds.written }

offers_as : (k l : List ℕ) (m n : ℕ) (x y : SiteView) (v : ActuatorView) (parcel : Parcel) (moment : ℕ) → l ≡ k → n ≡ m → Offers v parcel moment x y → Offers v parcel moment (retell k m x) (retell l n y)
offers_as k l m n x y v parcel moment same lost offers = record { is_new = offers.is_new; in_range = offers.in_range; adds = adds_as k l m n x y v _ same lost offers.adds }

-- what one parcel that may have been put asks of the counts of mishaps, over a link whose pending parcels are not told
pub record CountsOnePut (m n : ℕ) (x y : SiteView) : Type 0 where
  pub later : m ≤ n
  pub lost : y.link.puts ≡ x.link.puts → Rose x.counts.mishaps y.counts.mishaps → Rose m n
  pub untold : (x.link.pending ≡ None) × (y.link.pending ≡ None)

untold-gains : (old new : Option (List Parcel)) (parcel : Parcel) → old ≡ None → new ≡ None → Gains old parcel new
untold-gains old new parcel was is = subst (λ (o : Option (List Parcel)). Gains o parcel new) (sym was) (subst (λ (o : Option (List Parcel)). Gains None parcel o) (sym is) tt)

counts_at : (m n : ℕ) (x between y : SiteView) (parcel : Parcel) → between.link ≡ x.link → between.counts ≡ x.counts → CountsOnePut m n x y → CountsPut m n parcel between y
counts_at m n x between y parcel link counts is = record {
  later = is.later;
  lost = λ gone rose. is.lost (gone ∙ ap (λ (l : LinkView). l.puts) link) (subst (λ (c : CountsView). Rose c.mishaps y.counts.mishaps) counts rose);
  arrives = λ calm. untold-gains between.link.pending y.link.pending parcel (ap (λ (l : LinkView). l.pending) link ∙ is.untold.0) is.untold.1;
}

pub acts_as : (k l : List ℕ) (m n : ℕ) (x y : SiteView) (v w : ActuatorView) (parcel : Parcel) (moment : ℕ) → l ≡ k → CountsOnePut m n x y → Acts v w parcel moment x y
    → Acts v w parcel moment (retell k m x) (retell l n y)
acts_as k l m n x y v w parcel moment same counts acts = record {
  between = retell k m acts.between;
  offers = offers_as k k m m x acts.between v parcel moment refl refl acts.offers;
  durable = acts.durable;
  steady = acts.steady;
  puts = puts_as k l m n acts.between y _ same (counts_at m n x acts.between y _ acts.offers.adds.file.rest.link acts.offers.adds.file.rest.counts counts) acts.puts;
  final = acts.final;
  fits = acts.fits;
  view = acts.view;
}

pub repeats_as : (k l : List ℕ) (m n : ℕ) (x y : SiteView) (v w : ActuatorView) (parcel : Parcel) → l ≡ k → CountsOnePut m n x y → Repeats v w parcel x y → Repeats v w parcel (retell k m x) (retell l n y)
repeats_as k l m n x y v w parcel same counts repeats = record {
  act = repeats.act;
  acted = repeats.acted;
  puts = puts_as k l m n x y _ same (counts_at m n x x y _ refl refl counts) repeats.puts;
  final = repeats.final;
  view = repeats.view;
}

-- under one label and with one count, where nothing changed
nothing_as : (k l : List ℕ) (m n : ℕ) (x y : SiteView) → l ≡ k → n ≡ m → y ≡ x → retell l n y ≡ retell k m x
nothing_as k l m n x y same lost e = ap (λ (s : SiteView). retell l n s) e ∙ (ap (λ (j : List ℕ). retell j n x) same ∙ ap (λ (j : ℕ). retell k j x) lost)

done_as : (k l : List ℕ) (m n : ℕ) (x y : SiteView) (v : ActuatorView) (parcel : Parcel) (moment : ℕ) (error : ActError) → l ≡ k → n ≡ m → MayHaveDone error v parcel moment x y
    → MayHaveDone error v parcel moment (retell k m x) (retell l n y)
done_as k l m n x y v parcel moment act_error.Disk same lost did = offers_as k l m n x y v parcel moment same lost did
done_as k l m n x y v parcel moment act_error.Memory same lost did = elim did [
  | inl none ↦ inl (nothing_as k l m n x y same lost none)
  | inr offers ↦ inr (offers_as k l m n x y v parcel moment same lost offers)
]
done_as k l m n x y v parcel moment (act_error.Full needed) same lost did = nothing_as k l m n x y same lost did
done_as k l m n x y v parcel moment (act_error.Damaged place) same lost did = nothing_as k l m n x y same lost did
done_as k l m n x y v parcel moment act_error.Broken same lost did = nothing_as k l m n x y same lost did

pub refuses_as : (k l : List ℕ) (m n : ℕ) (x y : SiteView) (v w : ActuatorView) (parcel : Parcel) (moment : ℕ) (error : ActError) → l ≡ k → n ≡ m → Refuses v w parcel moment error x y
    → Refuses v w parcel moment error (retell k m x) (retell l n y)
refuses_as k l m n x y v w parcel moment error same lost refuses =
    record { view = refuses.view; site = done_as k l m n x y v parcel moment error same lost refuses.site; steady = refuses.steady }
