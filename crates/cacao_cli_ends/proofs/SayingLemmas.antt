-- What the calls of `say` leave as it was.
use Rattle.std.proofs.Common.{◌≡◌, ◌∙◌, refl, sym, ap, subst, arith, inl, inr, ℕ, ◌+◌, ◌≤◌, List, [], ◌∷◌, ◌++◌, length, length-append, Option, Some, None}
use Rattle.std.specs.Prelude.{IfSome}
use Rattle.cacao_site.specs.DiskCalls.{KeepsDisk}
use Rattle.cacao_site.specs.LinkCalls.{Gains}
use Rattle.cacao_site.specs.SayCalls.{KeepsTime, SaysOnly}
use Rattle.cacao_site.specs.View.{DiskView, SiteView, device_calls}
use Rattle.cacao_site.proofs.Beats.{goes_on-refl, goes_on-trans, stays-trans}
use Rattle.cacao_cli_words.specs.Words.{Text}
use Rattle.cacao_cli_ends.specs.Ends.{End, text_of}
use Rattle.cacao_cli_ends.specs.Stays.{SaysAtMost}
use Rattle.cacao_cli_ends.specs.Lines.{FailsToSay, SaysAll, SaysLine, Tells, TellsText}

-- both are told, or neither is
abbrev pub AreTold : Option (List (ℕ × Text)) → Option (List (ℕ × Text)) → Type 0
AreTold None None = Unit {0}
AreTold None (Some after) = ⊥
AreTold (Some before) None = ⊥
AreTold (Some before) (Some after) = Unit {0}

-- each line said took one call, and so many calls said none
abbrev pub Tallies : ℕ → ℕ → ℕ → Option (List (ℕ × Text)) → Option (List (ℕ × Text)) → Type 0
Tallies k before after old new = IfSome old (λ (said : List (ℕ × Text)). IfSome new (λ (more : List (ℕ × Text)). after + length said ≤ before + length more + k))

-- Lines were said, and nothing else changed, so no call of the disk was made; so many calls may have said none.
pub record SaysSome (k : ℕ) (old new : SiteView) : Type 0 where
  pub disk : KeepsDisk old.disk new.disk
  pub link : SaysAtMost old.link new.link
  pub time : KeepsTime old.clock new.clock
  pub mishaps : new.counts.mishaps ≡ old.counts.mishaps
  pub told : AreTold old.link.said new.link.said
  pub calls : Tallies k (device_calls old) (device_calls new) old.link.said new.link.said
  pub disk_calls : new.disk.calls ≡ old.disk.calls

pub keeps-refl : (disk : DiskView) → KeepsDisk disk disk
keeps-refl disk = record {
  goes_on = goes_on-refl disk;
  stays = λ file. record { reads = refl; images = λ beat image from to. let now : beat ≡ disk.beat = omega (arith, from, to) in ap (λ (b : ℕ). disk.left file b image) now };
  written = refl;
  faults = refl;
}

pub keeps-trans : (a b c : DiskView) → KeepsDisk a b → KeepsDisk b c → KeepsDisk a c
keeps-trans a b c p q = record {
  goes_on = goes_on-trans p.goes_on q.goes_on;
  stays = λ file. stays-trans p.goes_on q.goes_on (p.stays file) (q.stays file);
  written = q.written ∙ p.written;
  faults = q.faults ∙ p.faults;
}

told-refl : (said : Option (List (ℕ × Text))) → AreTold said said
told-refl None = tt
told-refl (Some said) = tt

tallies-refl : (calls k : ℕ) (said : Option (List (ℕ × Text))) → Tallies k calls calls said said
tallies-refl calls k None = tt
tallies-refl calls k (Some said) = omega arith

pub some-refl : (k : ℕ) (site : SiteView) → SaysSome k site site
some-refl k site = record {
  disk = keeps-refl site.disk;
  link = record { puts = refl; taken = refl; empty_takes = refl; pending = refl };
  time = record { now = refl; asked = refl; furthest = refl; shorts = refl };
  mishaps = refl;
  told = told-refl site.link.said;
  calls = tallies-refl (device_calls site) k site.link.said;
  disk_calls = refl;
}

told-trans : (a b c : Option (List (ℕ × Text))) → AreTold a b → AreTold b c → AreTold a c
told-trans None None None p q = tt
told-trans None None (Some c) p q = q
told-trans None (Some b) c p q = absurd p
told-trans (Some a) None c p q = absurd p
told-trans (Some a) (Some b) None p q = q
told-trans (Some a) (Some b) (Some c) p q = tt

tallies-trans : (k m x y z : ℕ) (a b c : Option (List (ℕ × Text))) → AreTold a b → Tallies k x y a b → Tallies m y z b c → Tallies (k + m) x z a c
tallies-trans k m x y z None b c told p q = tt
tallies-trans k m x y z (Some a) None c told p q = absurd told
tallies-trans k m x y z (Some a) (Some b) None told p q = tt
tallies-trans k m x y z (Some a) (Some b) (Some c) told p q = omega (arith, p, q)

pub some-trans : (k m : ℕ) (a b c : SiteView) → SaysSome k a b → SaysSome m b c → SaysSome (k + m) a c
some-trans k m a b c p q = record {
  disk = keeps-trans a.disk b.disk c.disk p.disk q.disk;
  link = record {
    puts = q.link.puts ∙ p.link.puts;
    taken = q.link.taken ∙ p.link.taken;
    empty_takes = q.link.empty_takes ∙ p.link.empty_takes;
    pending = q.link.pending ∙ p.link.pending;
  };
  time = record {
    now = q.time.now ∙ p.time.now;
    asked = q.time.asked ∙ p.time.asked;
    furthest = q.time.furthest ∙ p.time.furthest;
    shorts = q.time.shorts ∙ p.time.shorts;
  };
  mishaps = q.mishaps ∙ p.mishaps;
  told = told-trans a.link.said b.link.said c.link.said p.told q.told;
  calls = tallies-trans k m (device_calls a) (device_calls b) (device_calls c) a.link.said b.link.said c.link.said p.told p.calls q.calls;
  disk_calls = q.disk_calls ∙ p.disk_calls;
}

gains-told : (old new : Option (List (ℕ × Text))) (entry : ℕ × Text) → Gains old entry new → AreTold old new
gains-told None None entry h = tt
gains-told None (Some new) entry h = h
gains-told (Some old) None entry h = h
gains-told (Some old) (Some new) entry h = tt

gains-tally : (x y : ℕ) (old new : Option (List (ℕ × Text))) (entry : ℕ × Text) → y ≤ x + 1 → Gains old entry new → Tallies 0 x y old new
gains-tally x y None new entry le h = tt
gains-tally x y (Some old) None entry le h = tt
gains-tally x y (Some old) (Some new) entry le h = let long : length new ≡ length old + 1 = ap length h ∙ length-append old (entry ∷ []) in omega (arith, le, long)

-- one call of `say`, and none of the disk
one-call : (old new : SiteView) → SaysOnly old new → device_calls new ≤ device_calls old + 1
one-call old new only = omega (arith, only.calls, only.says)

pub some-line : (line : Text) (old new : SiteView) → SaysLine line old new → SaysSome 0 old new
some-line line old new h = record {
  disk = h.only.disk;
  link = record { puts = h.only.puts; taken = h.only.taken; empty_takes = h.only.empty_takes; pending = h.only.pending };
  time = h.only.time;
  mishaps = h.only.mishaps;
  told = gains-told old.link.said new.link.said (new.disk.beat, line) h.said;
  calls = gains-tally (device_calls old) (device_calls new) old.link.said new.link.said (new.disk.beat, line) (one-call old new h.only) h.said;
  disk_calls = h.only.calls;
}

same-tally : (x y : ℕ) (old new : Option (List (ℕ × Text))) → y ≤ x + 1 → new ≡ old → Tallies 1 x y old new
same-tally x y None new le e = tt
same-tally x y (Some old) None le e = tt
same-tally x y (Some old) (Some new) le e = let is : new ≡ old = cc in omega (arith, le, ap length is)

pub some-failed : (old new : SiteView) → FailsToSay old new → SaysSome 1 old new
some-failed old new h = record {
  disk = h.only.disk;
  link = record { puts = h.only.puts; taken = h.only.taken; empty_takes = h.only.empty_takes; pending = h.only.pending };
  time = h.only.time;
  mishaps = h.only.mishaps;
  told = subst (AreTold old.link.said) (sym h.said) (told-refl old.link.said);
  calls = same-tally (device_calls old) (device_calls new) old.link.said new.link.said (one-call old new h.only) h.said;
  disk_calls = h.only.calls;
}

pub some-same : (k : ℕ) (old new : SiteView) → new ≡ old → SaysSome k old new
some-same k old new e = subst (SaysSome k old) (sym e) (some-refl k old)

pub some-all : (lines : List Text) (old new : SiteView) → SaysAll lines old new → SaysSome 0 old new
some-all [] old new h = some-same 0 old new h
some-all (line ∷ lines) old new h = some-trans 0 0 old h.0 new (some-line line old h.0 h.1) (some-all lines h.0 new h.2)

tally-more : (k x y : ℕ) (old new : Option (List (ℕ × Text))) → k ≤ 1 → Tallies k x y old new → Tallies 1 x y old new
tally-more k x y None new le h = tt
tally-more k x y (Some old) None le h = tt
tally-more k x y (Some old) (Some new) le h = omega (arith, le, h)

pub some-more : (k : ℕ) (old new : SiteView) → k ≤ 1 → SaysSome k old new → SaysSome 1 old new
some-more k old new le h = record {
  disk = h.disk;
  link = h.link;
  time = h.time;
  mishaps = h.mishaps;
  told = h.told;
  calls = tally-more k (device_calls old) (device_calls new) old.link.said new.link.said le h.calls;
  disk_calls = h.disk_calls;
}

-- ---- the lines of a work, and the last one

last-some : (last : End) (text : Option Text) (mid new : SiteView) (answer : ℕ) → TellsText last text mid new answer → SaysSome 1 mid new
last-some last None mid new answer h = some-same 1 mid new h.same
last-some last (Some text) mid new answer (inl (inl h)) = some-more 0 mid new (omega arith) (some-line (text ++ 10 ∷ []) mid new h.says)
last-some last (Some text) mid new answer (inl (inr h)) = some-failed mid new h.fails
last-some last (Some text) mid new answer (inr h) = some-same 1 mid new h.same

pub tells-some : (last : End) (mid new : SiteView) (answer : ℕ) → Tells last mid new answer → SaysSome 1 mid new
tells-some last mid new answer h = last-some last (text_of last) mid new answer h
