-- How many calls and bytes a session over a wire uses, and filters that are served over one.
use Rattle.std.proofs.Common.{◌≡◌, ◌⊎◌, inl, inr, refl, sym, ◌∙◌, ap, subst, arith, ℕ, zero, suc, ◌+◌, ◌*◌, ◌≤◌, List, [], ◌∷◌, length, map, length-append, Option, Some, None, Result, Ok, Err}
use Rattle.std.specs.Prelude.{IfSome, IsTrue, option_map, option_to_list}
use Rattle.std.specs.Option.{option_map_or}
use Rattle.std.proofs.lemmas.List.{length-map}
use Rattle.cacao_site.specs.LinkCalls.{GainsAll}
use Rattle.cacao_site.specs.View.{CountsView, DiskView, LinkView, SiteView, device_calls}
use Rattle.cacao_site.specs.declared.parcel.Parcel.{Parcel}
use Rattle.run_records.specs.Layout.{act_layout, layout}
use Rattle.run_records.specs.declared.act.Act.{Act}
use Rattle.slpf_actuator.specs.ActuatorView.{ActuatorView}
use Rattle.flow_core.specs.declared.flow_errors.LimitKind.TheVariants as limit
use Rattle.flow_core_rules.specs.Givens.{Given}
use Rattle.flow_engine_answers.specs.declared.answers.OperatorAnswer.{OperatorAnswer}
use Rattle.flow_world_steps.specs.Sums.{total}
use Rattle.flow_world_steps.specs.Worlds.{World}
use Rattle.flow_world_steps.specs.Written.{act_bytes, record_bytes}
use Rattle.flow_world_parts.specs.Openings.{RefusesFilters, RefusesJournal, blocks_to}
use Rattle.flow_world_parts.specs.declared.error.WorldError.{WorldError}
use Rattle.oc2_wire.specs.Answering.{Served, Serves as ServesActs}
use Rattle.oc2_wire.specs.Serving.{HasRefused, Serves}
use Rattle.oc2_wire.specs.declared.error.WireError.{WireError}
use Rattle.oc2_wire.specs.declared.error.WireError.TheVariants as error
use Rattle.oc2_wire_site.specs.Wires.{WireView}
use Rattle.cacao_cli_words.specs.Words.{Text}
use Rattle.cacao_cli_ends.specs.Ends.{End}
use Rattle.cacao_cli_ends.proofs.SayingLemmas.{AreTold, SaysSome, Tallies}
use Rattle.cacao_cli_starts.specs.Usage.{DiskCallsFew, IsFew, Usage, blocks, entry_bytes, opens_only, reads_to}
use Rattle.cacao_cli_peers.specs.Pairing.{ClosesOver, OverSite, RefusesOver}
use Rattle.cacao_cli_peers.specs.PeerUsage.{acts_usage, over_usage, refused_usage, served_usage, serves_usage, unopened_usage}
use Rattle.cacao_cli_peers.proofs.AloneLemmas.{acts_not}

abbrev Said : Type 0
Said = Option (List (ℕ × Text))

-- calls by lines said, with so many more at most
abbrev CallsBy : ℕ → ℕ → ℕ → ℕ → ℕ → ℕ → Said → Said → Type 0
CallsBy k x y n b e p q = IfSome p (λ (before : List (ℕ × Text)). IfSome q (λ (after : List (ℕ × Text)). y + length before ≤ x + length after + k + n + b + e))

-- ---- lines alone

few-tally : (k x y : ℕ) (p q : Said) → k ≤ 10 → Tallies k x y p q → CallsBy 10 x y 0 0 0 p q
few-tally k x y None q le h = tt
few-tally k x y (Some p) None le h = tt
few-tally k x y (Some p) (Some q) le h = omega (arith, le, h)

pub few-some : (k : ℕ) (old new : SiteView) → k ≤ 10 → SaysSome k old new → IsFew (opens_only []) old new
few-some k old new le says = record {
  calls = λ told. few-tally k (device_calls old) (device_calls new) old.link.said new.link.said le says.calls;
  disk_calls = λ told. omega (arith, says.disk_calls);
  written = omega (arith, says.disk.written);
  one = omega arith;
}

-- ---- up to the last line

-- with one call left for that line
pub record IsFewer (usage : Usage) (old new : SiteView) : Type 0 where
  pub told : AreTold old.link.said new.link.said
  pub calls : IsTrue old.disk.told → CallsBy 9 (device_calls old) (device_calls new) (5 * length usage.opened) (total blocks usage.opened) (4 * length usage.appended) old.link.said new.link.said
  pub disk_calls : DiskCallsFew usage old new
  pub written : new.disk.written ≤ old.disk.written + 9 * length usage.opened + total entry_bytes usage.appended + total entry_bytes usage.failed
  pub one : length usage.failed ≤ 1

last-call : (x y z n b e : ℕ) (p q r : Said) → AreTold p q → CallsBy 9 x y n b e p q → Tallies 1 y z q r → CallsBy 10 x z n b e p r
last-call x y z n b e None q r told few says = tt
last-call x y z n b e (Some p) None r told few says = absurd told
last-call x y z n b e (Some p) (Some q) None told few says = tt
last-call x y z n b e (Some p) (Some q) (Some r) told few says = omega (arith, few, says)

pub few-then : (usage : Usage) (old mid new : SiteView) → IsFewer usage old mid → SaysSome 1 mid new → IsFew usage old new
few-then usage old mid new few says = record {
  calls = λ told. last-call (device_calls old) (device_calls mid) (device_calls new) (5 * length usage.opened) (total blocks usage.opened) (4 * length usage.appended)
      old.link.said mid.link.said new.link.said few.told (few.calls told) says.calls;
  disk_calls = λ told. let calls = few.disk_calls told in omega (arith, calls, says.disk_calls);
  written = omega (arith, few.written, says.disk.written);
  one = few.one;
}

-- a line was said before
told-then : (p q r : Said) → AreTold p q → AreTold q r → AreTold p r
told-then None None None a b = tt
told-then None None (Some r) a b = b
told-then None (Some q) r a b = absurd a
told-then (Some p) None r a b = absurd a
told-then (Some p) (Some q) None a b = b
told-then (Some p) (Some q) (Some r) a b = tt

first-line : (x y z n b e : ℕ) (p q r : Said) → AreTold p q → Tallies 0 x y p q → CallsBy 9 y z n b e q r → CallsBy 9 x z n b e p r
first-line x y z n b e None q r told says few = tt
first-line x y z n b e (Some p) None r told says few = absurd told
first-line x y z n b e (Some p) (Some q) None told says few = tt
first-line x y z n b e (Some p) (Some q) (Some r) told says few = omega (arith, few, says)

pub few-behind : (usage : Usage) (old said mid : SiteView) → SaysSome 0 old said → IsFewer usage said mid → IsFewer usage old mid
few-behind usage old said mid says few = record {
  told = told-then old.link.said said.link.said mid.link.said says.told few.told;
  calls = λ told. first-line (device_calls old) (device_calls said) (device_calls mid) (5 * length usage.opened) (total blocks usage.opened) (4 * length usage.appended)
      old.link.said said.link.said mid.link.said says.told says.calls (few.calls (subst IsTrue (sym says.disk.goes_on.told) told));
  disk_calls = λ told. let calls = few.disk_calls (subst IsTrue (sym says.disk.goes_on.told) told) in omega (arith, calls, says.disk_calls);
  written = omega (arith, few.written, says.disk.written);
  one = few.one;
}

-- ---- over a wire it is as on the site beneath

calls-as : (x y x' y' n b e : ℕ) (p q p' q' : Said) → x ≡ x' → y ≡ y' → p ≡ p' → q ≡ q' → CallsBy 9 x y n b e p q → CallsBy 9 x' y' n b e p' q'
calls-as x y x' y' n b e p q p' q' one two three four h =
    subst (λ (k : ℕ). CallsBy 9 k y' n b e p' q') one (subst (λ (k : ℕ). CallsBy 9 x k n b e p' q') two
    (subst (λ (o : Said). CallsBy 9 x y n b e o q') three (subst (λ (o : Said). CallsBy 9 x y n b e p o) four h)))

fewer-as : (usage : Usage) (a b old new : SiteView) → a.disk.told ≡ old.disk.told → device_calls a ≡ device_calls old → device_calls b ≡ device_calls new → a.disk.calls ≡ old.disk.calls
    → b.disk.calls ≡ new.disk.calls → a.disk.written ≡ old.disk.written → b.disk.written ≡ new.disk.written → a.link.said ≡ old.link.said → b.link.said ≡ new.link.said → IsFewer usage a b → IsFewer usage old new
fewer-as usage a b old new told calls calls' disk disk' written written' said said' few = record {
  told = subst (λ (o : Said). AreTold o new.link.said) said (subst (λ (o : Said). AreTold a.link.said o) said' few.told);
  calls = λ t. calls-as (device_calls a) (device_calls b) (device_calls old) (device_calls new) (5 * length usage.opened) (total blocks usage.opened) (4 * length usage.appended)
      a.link.said b.link.said old.link.said new.link.said calls calls' said said' (few.calls (subst IsTrue (sym told) t));
  disk_calls = λ t. let most = few.disk_calls (subst IsTrue (sym told) t) in omega (arith, most, disk, disk');
  written = omega (arith, few.written, written, written');
  one = few.one;
}

pub few-over : (asking : _) (usage : Usage) (old new : SiteView) (first last : WireView) → OverSite asking old new first last → IsFewer usage first.site last.site → IsFewer usage old new
few-over asking usage old new first last over few = fewer-as usage first.site last.site old new
    (ap (λ (w : WireView). w.site.disk.told) over.begins) (ap (λ (w : WireView). device_calls w.site) over.begins) (ap device_calls over.site)
    (ap (λ (w : WireView). w.site.disk.calls) over.begins) (ap (λ (s : SiteView). s.disk.calls) over.site)
    (ap (λ (w : WireView). w.site.disk.written) over.begins) (ap (λ (s : SiteView). s.disk.written) over.site)
    (ap (λ (w : WireView). w.site.link.said) over.begins) (ap (λ (s : SiteView). s.link.said) over.site) few

-- ---- sums

length-reads : (n : ℕ) (disk : DiskView) → length (reads_to n disk) ≡ n
length-reads zero disk = refl
length-reads (suc n) disk = ap suc (length-reads n disk)

blocks-reads : (n : ℕ) (disk : DiskView) → total blocks (reads_to n disk) ≡ blocks_to n disk
blocks-reads zero disk = refl
blocks-reads (suc n) disk = ap (λ (b : ℕ). blocks (disk.reads (suc n)) + b) (blocks-reads n disk)

total-map : {S T : Type 0} (f : T → ℕ) (g : S → T) (xs : List S) → total f (map g xs) ≡ total (λ (x : S). f (g x)) xs
total-map {S} {T} f g [] = refl
total-map {S} {T} f g (x ∷ xs) = let rest = total-map f g xs in omega (arith, rest)

total-option : {T : Type 0} (g : T → List ℕ) (o : Option T) → total entry_bytes (option_to_list (option_map g o)) ≡ option_map_or (λ (x : T). entry_bytes (g x)) o 0
total-option {T} g None = refl
total-option {T} g (Some x) = omega arith

length-one : {T : Type 0} (o : Option T) → length (option_to_list o) ≤ 1
length-one {T} None = omega arith
length-one {T} (Some x) = omega arith

-- no line was said
told-same : (p q : Said) → q ≡ p → AreTold p q
told-same None None e = tt
told-same None (Some q) e = absurd (cc)
told-same (Some p) None e = absurd (cc)
told-same (Some p) (Some q) e = tt

none-said : (x y n b e : ℕ) (p q : Said) → q ≡ p → y ≤ x + 9 + n + b + e → CallsBy 9 x y n b e p q
none-said x y n b e None q same le = tt
none-said x y n b e (Some p) None same le = tt
none-said x y n b e (Some p) (Some q) same le = let is : q ≡ p = cc in let long = ap length is in omega (arith, le, long)

-- these were
told-more : (p q : Said) (said : List (ℕ × Text)) → GainsAll p said q → AreTold p q
told-more None None said h = tt
told-more None (Some q) said h = h
told-more (Some p) None said h = h
told-more (Some p) (Some q) said h = tt

more-said : (x y n b e : ℕ) (p q : Said) (said : List (ℕ × Text)) → GainsAll p said q → y ≤ x + length said + 9 + n + b + e → CallsBy 9 x y n b e p q
more-said x y n b e None q said h le = tt
more-said x y n b e (Some p) None said h le = tt
more-said x y n b e (Some p) (Some q) said h le = let long : length q ≡ length p + length said = ap length h ∙ length-append p said in omega (arith, le, long)

link-said : (old new : SiteView) → new.link ≡ old.link → new.link.said ≡ old.link.said
link-said old new e = ap (λ (l : LinkView). l.said) e

counts-says : (old new : SiteView) → new.counts ≡ old.counts → new.counts.says ≡ old.counts.says
counts-says old new e = ap (λ (c : CountsView). c.says) e

-- ---- a session

none-long : (xs : List ActuatorView) → xs ≡ [] → length xs ≡ 0
none-long xs e = ap length e

none-acted : (xs : List (ℕ × Act)) → xs ≡ [] → (length xs ≡ 0) × (total act_bytes xs ≡ 0)
none-acted xs e = (ap length e, ap (total act_bytes) e)

none-unsure : (o : Option (ℕ × Act)) → o ≡ None → option_map_or act_bytes o 0 ≡ 0
none-unsure o e = ap (λ (p : Option (ℕ × Act)). option_map_or act_bytes p 0) e

module _ (given : Given) (run most : ℕ) (answers : List OperatorAnswer) (old mid : SiteView) (s : Serves given run most answers old mid) where
  abbrev w : World
  w = s.to

  serves-few : IsFewer (serves_usage s) old mid
  serves-few =
      let one = s.journal.opens in
      let sums = s.sums in
      let start = s.start.site in
      let alone = acts_not s.start w s.alone s.steps in
      let acted = none-acted w.notes.acted (alone.acted ∙ ap (λ n. n.acted) s.begins.notes) in
      let unsure_act = none-unsure w.notes.unsure_act (alone.unsure ∙ ap (λ n. n.unsure_act) s.begins.notes) in
      let none = none-long s.start.filters s.alone in
      let records : List (List ℕ) = map layout sums.adds.added in
      let entries : length records ≡ length sums.adds.added = length-map sums.adds.added layout in
      let grown : length w.engine.history.records ≡ length s.start.engine.history.records + length sums.adds.added =
      ap length sums.adds.is ∙ length-append s.start.engine.history.records sums.adds.added in
      let last_calls : device_calls w.site ≡ device_calls mid = ap device_calls s.to_is in
      let last_disk : w.site.disk.calls ≡ mid.disk.calls = ap (λ (v : SiteView). v.disk.calls) s.to_is in
      let last_written : w.site.disk.written ≡ mid.disk.written = ap (λ (v : SiteView). v.disk.written) s.to_is in
      let said_start : start.link.said ≡ old.link.said = link-said old start one.only.rest.link in
      let gains : GainsAll old.link.said sums.speaks.said mid.link.said =
      subst (λ (v : SiteView). GainsAll old.link.said sums.speaks.said v.link.said) s.to_is
      (subst (λ (o : Said). GainsAll o sums.speaks.said w.site.link.said) said_start sums.speaks.says) in
      let behind : total entry_bytes records ≡ total record_bytes sums.adds.added = total-map entry_bytes layout sums.adds.added in
      let unsure : total entry_bytes (option_to_list (option_map layout w.notes.unsure)) ≡ option_map_or record_bytes w.notes.unsure 0 = total-option layout w.notes.unsure in
      record {
        told = told-more old.link.said mid.link.said sums.speaks.said gains;
        calls = λ told.
            let a = one.calls told in
            let c = sums.calls in
            let d = sums.speaks.many in
            let says : start.counts.says ≡ old.counts.says = counts-says old start one.only.rest.counts in
            more-said (device_calls old) (device_calls mid) (5 * 1) (blocks (start.disk.reads 0) + 0) (4 * length records) old.link.said mid.link.said sums.speaks.said gains
            (omega (arith, a, c, d, says, none, acted.0, entries, grown, last_calls));
        disk_calls = λ told. let a = one.calls told in let c = sums.disk_calls in omega (arith, a, c, none, acted.0, entries, last_disk);
        written =
            let a = one.written in
            let c : w.site.disk.written ≤ start.disk.written + 9 * (1 + length s.start.filters) + total record_bytes sums.adds.added
            + (option_map_or record_bytes w.notes.unsure 0 + total act_bytes w.notes.acted + option_map_or act_bytes w.notes.unsure_act 0) = sums.written in
            omega (arith, a, c, none, acted.1, unsure_act, behind, unsure, last_written);
        one = length-one (option_map layout w.notes.unsure);
      }

first-few : (why : WorldError) (given : Given) (run : ℕ) (old mid : SiteView) → RefusesJournal why given run old mid → IsFewer (opens_only (mid.disk.reads 0 ∷ [])) old mid
first-few why given run old mid r = record {
  told = told-same old.link.said mid.link.said (link-said old mid r.opens.only.rest.link);
  calls = λ told. none-said (device_calls old) (device_calls mid) (5 * length (mid.disk.reads 0 ∷ [])) (total blocks (mid.disk.reads 0 ∷ [])) (4 * 0) old.link.said mid.link.said
      (link-said old mid r.opens.only.rest.link) (let few = r.opens.calls told in let says = counts-says old mid r.opens.only.rest.counts in omega (arith, few, says));
  disk_calls = λ told. omega (arith, r.opens.calls told);
  written = omega (arith, r.opens.written);
  one = omega arith;
}

pub over-few : (given : Given) (run most : ℕ) (answers : List OperatorAnswer) (old mid : SiteView) (how : End)
    (h : ClosesOver given run most answers old mid how ⊎ RefusesOver given run most answers old mid how) → IsFewer (over_usage h) old mid
over-few given run most answers old mid how (inl c) = serves-few given run most answers old mid c.served.serves
over-few given run most answers old mid how (inr r) = go r.refused
  where
    go : (why : HasRefused r.error given run most answers old mid) → IsFewer (refused_usage why) old mid
    go (inl o) = first-few o.why given run old mid o.journal
    go (inr l) = serves-few given run most answers old mid l.serves

-- ---- filters

unopened-few : (why : WorldError) (old mid : SiteView) (r : RefusesFilters why old mid) → IsFewer (unopened_usage r) old mid
unopened-few why old mid r =
    let two = r.before in
    let three = r.refuses.opens in
    let n = r.agent in
    let files : List (List ℕ) = mid.disk.reads (n + 1) ∷ reads_to n r.middle.disk in
    let l = length-reads n r.middle.disk in
    let one_more : suc (length (reads_to n r.middle.disk)) ≡ n + 1 = omega (arith, l) in
    let many : length files ≡ n + 1 = one_more in
    let filled : total blocks files ≡ blocks (mid.disk.reads (n + 1)) + blocks_to n r.middle.disk = ap (λ (b : ℕ). blocks (mid.disk.reads (n + 1)) + b) (blocks-reads n r.middle.disk) in
    let said : mid.link.said ≡ old.link.said = link-said r.middle mid three.only.rest.link ∙ link-said old r.middle two.rest.link in
    record {
      told = told-same old.link.said mid.link.said said;
      calls = λ told.
          let b = two.calls told in
          let c = three.calls (subst IsTrue (sym two.goes_on.told) told) in
          let says : mid.counts.says ≡ old.counts.says = counts-says r.middle mid three.only.rest.counts ∙ counts-says old r.middle two.rest.counts in
          none-said (device_calls old) (device_calls mid) (5 * length files) (total blocks files) (4 * 0) old.link.said mid.link.said said (omega (arith, b, c, says, many, filled));
      disk_calls = λ told.
          let b = two.calls told in
          let c = three.calls (subst IsTrue (sym two.goes_on.told) told) in
          omega (arith, b, c, many, filled);
      written = let b = two.written in let c = three.written in omega (arith, b, c);
      one = omega arith;
    }

acts-few : (old : WireView) (opened : SiteView) (new : WireView) (filters : List ActuatorView) (acted : List (ℕ × Act)) (repeats : ℕ) (at_hand : List (ℕ × Parcel)) (unsure : Option (ℕ × Act))
    → length at_hand ≤ 1 → ServesActs old opened new filters acted repeats at_hand unsure → IsFewer (acts_usage opened acted unsure) old.site new.site
acts-few old opened new filters acted repeats at_hand unsure hand s =
    let files : List (List ℕ) = reads_to 16 opened.disk in
    let acts : List (List ℕ) = map (λ (e : ℕ × Act). act_layout e.1) acted in
    let many : length files ≡ 16 = length-reads 16 opened.disk in
    let filled : total blocks files ≡ blocks_to 16 opened.disk = blocks-reads 16 opened.disk in
    let entries : length acts ≡ length acted = length-map acted (λ (e : ℕ × Act). act_layout e.1) in
    let behind : total entry_bytes acts ≡ total act_bytes acted = total-map entry_bytes (λ (e : ℕ × Act). act_layout e.1) acted in
    let left : total entry_bytes (option_to_list (option_map (λ (e : ℕ × Act). act_layout e.1) unsure)) ≡ option_map_or act_bytes unsure 0 = total-option (λ (e : ℕ × Act). act_layout e.1) unsure in
    record {
      told = told-same old.site.link.said new.site.link.said s.said;
      calls = λ told.
          let a = s.calls told in
          let says = s.says in
          none-said (device_calls old.site) (device_calls new.site) (5 * length files) (total blocks files) (4 * length acts) old.site.link.said new.site.link.said s.said
          (omega (arith, a, says, hand, many, filled, entries));
      disk_calls = λ told. let a = s.calls told in omega (arith, a, hand, many, filled, entries);
      written = let a = s.written in omega (arith, a, many, behind, left);
      one = length-one (option_map (λ (e : ℕ × Act). act_layout e.1) unsure);
    }

one-hand : (e : ℕ × Parcel) → length (e ∷ []) ≤ 1
one-hand e = omega arith

pub served-few : (how : Result ℕ WireError) (first last : WireView) (h : Served how first last) → IsFewer (served_usage how first last h) first.site last.site
served-few (Ok acts) first last h = acts-few first h.0.all.opened last h.0.all.filters h.0.all.acted h.0.all.repeats [] None (omega arith) h.0.all.serves
served-few (Err error.Flooded) first last h = acts-few first h.opened last h.filters h.acted h.repeats h.at_hand None h.one h.serves
served-few (Err error.TooLong) first last h = acts-few first h.all.opened last h.all.filters h.all.acted h.all.repeats [] None (omega arith) h.all.serves
served-few (Err error.Link) first last h = acts-few first h.all.opened last h.all.filters h.all.acted h.all.repeats [] None (omega arith) h.all.serves
served-few (Err error.Disk) first last (inl h) = unopened-few _ first.site last.site h.refuses
served-few (Err error.Disk) first last (inr h) = acts-few first h.refuses.opened last h.refuses.filters h.refuses.acted h.refuses.repeats ((h.refuses.beat, h.parcel) ∷ []) h.refuses.unsure (one-hand (h.refuses.beat, h.parcel)) h.refuses.serves
served-few (Err (error.Damaged file place)) first last h = unopened-few _ first.site last.site h.refuses
served-few (Err (error.OtherRun held asked)) first last h = absurd h
served-few (Err (error.OtherBook index)) first last h = absurd h
served-few (Err (error.Limit limit.Moment)) first last h = acts-few first h.refuses.opened last h.refuses.filters h.refuses.acted h.refuses.repeats ((h.refuses.beat, h.parcel) ∷ []) h.refuses.unsure (one-hand (h.refuses.beat, h.parcel)) h.refuses.serves
served-few (Err (error.Limit limit.Journal)) first last h = acts-few first h.refuses.opened last h.refuses.filters h.refuses.acted h.refuses.repeats ((h.refuses.beat, h.parcel) ∷ []) h.refuses.unsure (one-hand (h.refuses.beat, h.parcel)) h.refuses.serves
served-few (Err (error.Limit limit.Tasks)) first last h = absurd h
served-few (Err (error.Limit limit.Command)) first last h = absurd h
served-few (Err error.Say) first last h = absurd h
served-few (Err error.Memory) first last (inl h) = unopened-few _ first.site last.site h.refuses
served-few (Err error.Memory) first last (inr (inl h)) = acts-few first h.all.opened last h.all.filters h.all.acted h.all.repeats [] None (omega arith) h.all.serves
served-few (Err error.Memory) first last (inr (inr h)) = acts-few first h.refuses.opened last h.refuses.filters h.refuses.acted h.refuses.repeats ((h.refuses.beat, h.parcel) ∷ []) h.refuses.unsure (one-hand (h.refuses.beat, h.parcel)) h.refuses.serves
