-- What saying lines leaves as it was, and what it counts.
use Rattle.std.proofs.Common.{◌≡◌, ◌⊎◌, ◌∙◌, refl, sym, ap, subst, arith, inl, inr, ℕ, ◌+◌, ◌<◌, List, [], ◌∷◌, ◌++◌, length, map, take, drop, get_or, drop-cons, Bor, Option, Some, None}
use Rattle.std.proofs.lemmas.List.{map-append, take_more, take-append-drop}
use Rattle.cacao_site.specs.Counts.{next_count}
use Rattle.cacao_site.specs.DiskCalls.{KeepsDisk}
use Rattle.cacao_site.specs.SayCalls.{KeepsTime, SaysOnly}
use Rattle.cacao_site.specs.View.{DiskView, SiteView}
use Rattle.cacao_site.proofs.Beats.{each-keeps, goes_on-refl, goes_on-trans, since-start, stays-trans}
use Rattle.cacao_view_words.specs.Texts.{Text, lines_in}
use Rattle.cacao_view.specs.Ends.{End, done, ends_as, last_line, not_understood, status_of, unsaid}
use Rattle.cacao_view.specs.Lines.{FailsAmong, FailsToSay, SaysAll, SaysLine, SaysWork, Tells, TellsLine, unsaid_count}
use Rattle.cacao_view.specs.Looks.{OnlyLooks}

-- ---- the lines of a list

pub map-more : {A B : Type 0} (f : A → B) (xs : List A) (i : ℕ) (d : A) → i < length xs → map f (take (i + 1) xs) ≡ map f (take i xs) ++ f (get_or xs i d) ∷ []
map-more f xs i d lt = ap (map f) (take_more xs i d lt) ∙ map-append f (take i xs) (get_or xs i d ∷ [])

split-at : {A : Type 0} (xs : List A) (i : ℕ) (d : A) → i < length xs → xs ≡ take i xs ++ get_or xs i d ∷ drop (i + 1) xs
split-at xs i d lt = sym (take-append-drop i xs) ∙ ap (λ l. take i xs ++ l) (drop_at xs i d lt)
  where
    drop_at : {A : Type 0} (xs : List A) (i : ℕ) (d : A) → i < length xs → drop i xs ≡ get_or xs i d ∷ drop (i + 1) xs
    drop_at xs i d lt = grind (arith, drop-cons)

map-split : {A B : Type 0} (f : A → B) (xs : List A) (i : ℕ) (d : A) → i < length xs → map f xs ≡ map f (take i xs) ++ f (get_or xs i d) ∷ map f (drop (i + 1) xs)
map-split f xs i d lt = ap (map f) (split-at xs i d lt) ∙ map-append f (take i xs) (get_or xs i d ∷ drop (i + 1) xs)

pub says-more : (lines : List Text) (line : Text) (old mid new : SiteView) → SaysAll lines old mid → SaysLine line mid new → SaysAll (lines ++ line ∷ []) old new
says-more [] line old mid new h one = (new, subst (λ (s : SiteView). SaysLine line s new) h one, refl)
says-more (first ∷ lines) line old mid new h one = (h.0, h.1, says-more lines line h.0 mid new h.2 one)

-- the line at this place was said behind those before it
pub said-next : (lines : List (Bor Text)) (i : ℕ) (d : Bor Text) (line : Text) (old mid new : SiteView) → i < length lines → line ≡ (get_or lines i d).now → SaysAll (lines_in (take i lines)) old mid → SaysLine line mid new
    → SaysAll (lines_in (take (i + 1) lines)) old new
said-next lines i d line old mid new lt is h one =
    subst (λ (l : List Text). SaysAll l old new) (sym (map-more (λ (b : Bor Text). b.now) lines i d lt))
    (says-more (lines_in (take i lines)) (get_or lines i d).now old mid new h (subst (λ (l : Text). SaysLine l mid new) is one))

-- or it could not be said
pub failed-next : (lines : List (Bor Text)) (i : ℕ) (d : Bor Text) (old mid new : SiteView) → i < length lines → SaysAll (lines_in (take i lines)) old mid → FailsToSay mid new → FailsAmong (lines_in lines) old new
failed-next lines i d old mid new lt h fails = record {
  front = lines_in (take i lines);
  line = (get_or lines i d).now;
  behind = lines_in (drop (i + 1) lines);
  is = map-split (λ (b : Bor Text). b.now) lines i d lt;
  between = mid;
  says = h;
  fails = fails;
}

-- ---- what stays

-- of a site only what calls of `say` change may have changed
pub record Keeps (old new : SiteView) : Type 0 where
  pub disk : KeepsDisk old.disk new.disk
  pub puts : new.link.puts ≡ old.link.puts
  pub taken : new.link.taken ≡ old.link.taken
  pub empty_takes : new.link.empty_takes ≡ old.link.empty_takes
  pub pending : new.link.pending ≡ old.link.pending
  pub time : KeepsTime old.clock new.clock
  pub mishaps : new.counts.mishaps ≡ old.counts.mishaps

disk-refl : (disk : DiskView) → KeepsDisk disk disk
disk-refl disk = record {
  goes_on = goes_on-refl disk;
  stays = λ file. record { reads = refl; images = λ beat image from to. let now : beat ≡ disk.beat = omega (arith, from, to) in ap (λ (b : ℕ). disk.left file b image) now };
  written = refl;
  faults = refl;
}

disk-trans : (a b c : DiskView) → KeepsDisk a b → KeepsDisk b c → KeepsDisk a c
disk-trans a b c p q = record {
  goes_on = goes_on-trans p.goes_on q.goes_on;
  stays = λ file. stays-trans p.goes_on q.goes_on (p.stays file) (q.stays file);
  written = q.written ∙ p.written;
  faults = q.faults ∙ p.faults;
}

keeps-refl : (site : SiteView) → Keeps site site
keeps-refl site = record {
  disk = disk-refl site.disk;
  puts = refl;
  taken = refl;
  empty_takes = refl;
  pending = refl;
  time = record { now = refl; asked = refl; furthest = refl; shorts = refl };
  mishaps = refl;
}

keeps-same : (old new : SiteView) → new ≡ old → Keeps old new
keeps-same old new e = subst (Keeps old) (sym e) (keeps-refl old)

keeps-trans : (a b c : SiteView) → Keeps a b → Keeps b c → Keeps a c
keeps-trans a b c p q = record {
  disk = disk-trans a.disk b.disk c.disk p.disk q.disk;
  puts = q.puts ∙ p.puts;
  taken = q.taken ∙ p.taken;
  empty_takes = q.empty_takes ∙ p.empty_takes;
  pending = q.pending ∙ p.pending;
  time = record {
    now = q.time.now ∙ p.time.now;
    asked = q.time.asked ∙ p.time.asked;
    furthest = q.time.furthest ∙ p.time.furthest;
    shorts = q.time.shorts ∙ p.time.shorts;
  };
  mishaps = q.mishaps ∙ p.mishaps;
}

keeps-only : (old new : SiteView) → SaysOnly old new → Keeps old new
keeps-only old new h = record { disk = h.disk; puts = h.puts; taken = h.taken; empty_takes = h.empty_takes; pending = h.pending; time = h.time; mishaps = h.mishaps }

keeps-all : (lines : List Text) (old new : SiteView) → SaysAll lines old new → Keeps old new
keeps-all [] old new h = keeps-same old new h
keeps-all (line ∷ lines) old new h = keeps-trans old h.0 new (keeps-only old h.0 h.1.only) (keeps-all lines h.0 new h.2)

keeps-among : (lines : List Text) (old new : SiteView) → FailsAmong lines old new → Keeps old new
keeps-among lines old new h = keeps-trans old h.between new (keeps-all h.front old h.between h.says) (keeps-only h.between new h.fails.only)

keeps-work : (lines : List Text) (end : End) (old mid : SiteView) (last : End) → SaysWork lines end old mid last → Keeps old mid
keeps-work lines end old mid last (inl h) = keeps-all lines old mid h.0
keeps-work lines end old mid last (inr h) = keeps-among lines old mid h.0

keeps-line : (line : Option Text) (status : ℕ) (mid new : SiteView) (answer : ℕ) → TellsLine line status mid new answer → Keeps mid new
keeps-line None status mid new answer h = keeps-same mid new h.0
keeps-line (Some line) status mid new answer (inl h) = keeps-only mid new h.0.only
keeps-line (Some line) status mid new answer (inr h) = keeps-only mid new h.0.only

-- the end is not that of a command of `cacao`
abbrev pub IsPlain : End → Type 0
IsPlain done = Unit {0}
IsPlain (not_understood wanted) = Unit {0}
IsPlain unsaid = Unit {0}
IsPlain (ends_as end) = ⊥

as-line : (end : End) (mid new : SiteView) (answer : ℕ) → IsPlain end → Tells end mid new answer → TellsLine (last_line end) (status_of end) mid new answer
as-line done mid new answer plain h = h
as-line (not_understood wanted) mid new answer plain h = h
as-line unsaid mid new answer plain h = h
as-line (ends_as end) mid new answer plain h = absurd plain

plain-last : (lines : List Text) (end : End) (old mid : SiteView) (last : End) → IsPlain end → SaysWork lines end old mid last → IsPlain last
plain-last lines end old mid last plain (inl h) = subst IsPlain (sym h.1) plain
plain-last lines end old mid last plain (inr h) = subst IsPlain (sym h.1) tt

keeps-told : (last : End) (mid new : SiteView) (answer : ℕ) → IsPlain last → Tells last mid new answer → Keeps mid new
keeps-told last mid new answer plain h = keeps-line (last_line last) (status_of last) mid new answer (as-line last mid new answer plain h)

only-looks : (old mid new : SiteView) → Keeps old mid → Keeps mid new → OnlyLooks old new
only-looks old mid new p q = let k : Keeps old new = keeps-trans old mid new p q in record {
  images = λ file. each-keeps (since-start old.disk file) k.disk;
  written = omega (arith, k.disk.written);
  puts = k.puts;
  taken = k.taken;
  empty_takes = k.empty_takes;
  pending = k.pending;
  time = k.time;
  mishaps = k.mishaps;
}

-- ---- what is counted, and what is answered

all-counts : (lines : List Text) (old new : SiteView) → SaysAll lines old new → unsaid_count new ≡ unsaid_count old
all-counts [] old new h = ap unsaid_count h
all-counts (line ∷ lines) old new h = all-counts lines h.0 new h.2 ∙ h.1.count

among-counts : (lines : List Text) (old new : SiteView) → FailsAmong lines old new → unsaid_count new ≡ next_count (unsaid_count old)
among-counts lines old new h = h.fails.count ∙ ap next_count (all-counts h.front old h.between h.says)

-- the status of the end where nothing failed, and 9 where one call of `say` did
abbrev pub Answers : ℕ → SiteView → SiteView → ℕ → Type 0
Answers status old new answer =
    ((answer ≡ status) × (unsaid_count new ≡ unsaid_count old)) ⊎ ((answer ≡ 9) × (unsaid_count new ≡ next_count (unsaid_count old)))

line-answers : (line : Option Text) (status : ℕ) (mid new : SiteView) (answer : ℕ) → TellsLine line status mid new answer → Answers status mid new answer
line-answers None status mid new answer h = inl (h.1, ap unsaid_count h.0)
line-answers (Some line) status mid new answer (inl h) = inl (h.1, h.0.count)
line-answers (Some line) status mid new answer (inr h) = inr (h.1, h.0.count)

pub work-looks : (lines : List Text) (end : End) (old mid new : SiteView) (last : End) (answer : ℕ) → IsPlain end → SaysWork lines end old mid last → Tells last mid new answer → OnlyLooks old new
work-looks lines end old mid new last answer plain h tells =
    only-looks old mid new (keeps-work lines end old mid last h) (keeps-told last mid new answer (plain-last lines end old mid last plain h) tells)

pub work-steady : (lines : List Text) (end : End) (old mid new : SiteView) (last : End) (answer : ℕ) → IsPlain end → SaysWork lines end old mid last → Tells last mid new answer → new.disk.faults ≡ old.disk.faults
work-steady lines end old mid new last answer plain h tells =
    (keeps-told last mid new answer (plain-last lines end old mid last plain h) tells).disk.faults ∙ (keeps-work lines end old mid last h).disk.faults

pub work-answers : (lines : List Text) (end : End) (old mid new : SiteView) (last : End) (answer : ℕ) → IsPlain end → SaysWork lines end old mid last → Tells last mid new answer → Answers (status_of end) old new answer
work-answers lines end old mid new last answer plain (inl h) tells =
    subst (λ (n : ℕ). ((answer ≡ status_of end) × (unsaid_count new ≡ n)) ⊎ ((answer ≡ 9) × (unsaid_count new ≡ next_count n))) (all-counts lines old mid h.0)
    (line-answers (last_line end) (status_of end) mid new answer (as-line end mid new answer plain (subst (λ (e : End). Tells e mid new answer) h.1 tells)))
work-answers lines end old mid new last answer plain (inr h) tells =
    let told : (new ≡ mid) × (answer ≡ 9) = subst (λ (e : End). Tells e mid new answer) h.1 tells in
    inr (told.1, ap unsaid_count told.0 ∙ among-counts lines old mid h.0)
