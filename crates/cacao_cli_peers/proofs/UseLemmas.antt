-- How many calls and bytes a call uses that works with a peer, and what a `pair` is held with.
use Rattle.std.proofs.Common.{◌≡◌, ◌⊎◌, inl, inr, refl, sym, subst, arith, ℕ, ◌+◌, Bool, true, false, List, [], map, Option, Some, None, Result, Ok, Err}
use Rattle.std.specs.Prelude.{IfSome, if◌then◌else◌}
use Rattle.serde_json.specs.Data.{Data}
use Rattle.cacao_site.specs.View.{SiteView}
use Rattle.oc2_wire_link.specs.Peering.{PeersView}
use Rattle.cacao_cli_words.specs.Requests.{RunRequest}
use Rattle.cacao_cli_ends.specs.Asked.{runs}
use Rattle.cacao_cli_ends.specs.Ends.{End, no_memory, past, unsaid}
use Rattle.cacao_cli_ends.specs.FileCauses.{HasTexts}
use Rattle.cacao_cli_ends.specs.Files.{Files, NamedText, Reads, ReadsTo, ShelfCall, book_file, has_too_many, reading, run_names}
use Rattle.cacao_cli_ends.specs.Lines.{FailsToSay, SaysWork, Tells}
use Rattle.cacao_cli_ends.specs.Work.{ends, or_end, start_of, starts, trees_of, trees_wanted, work_on}
use Rattle.cacao_cli_ends.specs.declared.limit.Limit.TheVariants.{BookCount}
use Rattle.cacao_cli_ends.proofs.EndLemmas.{no_cons}
use Rattle.cacao_cli_ends.proofs.ReadLemmas.{Fails, Read, by_memory, by_shelf, reads-told}
use Rattle.cacao_cli_ends.proofs.SayingLemmas.{SaysSome, some-failed, some-line, some-trans, tells-some}
use Rattle.cacao_cli_starts.specs.Ended.{PerformedBy, PerformsBy}
use Rattle.cacao_cli_starts.specs.Usage.{IsFew, opens_only}
use Rattle.cacao_cli_starts.proofs.StartLemmas.{tells-line}
use Rattle.cacao_cli_peers.specs.FilterServing.{Accepts, FailsToAccept, LeavesPort, SaysPort, ServesSo, port_line}
use Rattle.cacao_cli_peers.specs.Pairing.{GoesAsPair, HoldsPair, PairsSo}
use Rattle.cacao_cli_peers.specs.PeerUsage.{FiltersUseFew, PairUsesFew, accepts_usage, filters_usage, over_usage, pair_usage, port_usage, served_usage}
use Rattle.cacao_cli_peers.proofs.FewLemmas.{few-behind, few-over, few-some, few-then, over-few, served-few}
use Rattle.cacao_cli_peers.proofs.OutcomeLemmas.{goes-performed}

-- ---- what a `pair` is held with

-- a session was held with what these texts give, or no peer came to be
pub record PairTo (wanted : RunRequest) (told : Option Files) (before after : PeersView) (old new : SiteView) (last : End) : Type 0 where
  pub texts : List NamedText
  pub has : IfSome told (λ files. HasTexts files wanted texts)
  pub holds : HoldsPair before after (start_of wanted texts) old new last

-- where the shelf tells its files, the texts are theirs
pub has-texts : (told : Option Files) (wanted : RunRequest) (count : ℕ) (texts : List NamedText) → has_too_many (runs wanted) ≡ false → Reads told (map book_file (run_names wanted)) count (Ok texts)
    → IfSome told (λ files. HasTexts files wanted texts)
has-texts None wanted count texts few reads = tt
has-texts (Some files) wanted count texts few reads = go (reads-told files (map book_file (run_names wanted)) count (Ok texts) reads)
  where
    go : (Ok texts ≡ reading files (map book_file (run_names wanted))) ⊎ Fails (map book_file (run_names wanted)) (Ok texts) → HasTexts files wanted texts
    go (inl e) = record { few = few; are = sym e }
    go (inr (by_shelf name e faults)) = absurd (cc)
    go (inr (by_memory e faults)) = absurd (cc)

module _ (wanted : RunRequest) (before after : PeersView) (shelf : ShelfCall) (old new : SiteView) (last : End) where
  ends-same : (end : End) → SaysWork [] end old new last → new ≡ old
  ends-same end (inl h) = h.says
  ends-same end (inr (inl h)) = absurd (no_cons h.front h.behind h.line h.line h.is)
  ends-same end (inr (inr h)) = h.same

  starts-left : (texts : List NamedText) → IfSome shelf.told (λ files. HasTexts files wanted texts) → PerformsBy (HoldsPair before after) (starts (start_of wanted texts)) old new last
      → (new ≡ old) ⊎ PairTo wanted shelf.told before after old new last
  starts-left texts has (inl h) = inl h.same
  starts-left texts has (inr (inl h)) = inl h.same
  starts-left texts has (inr (inr (inl h))) = inl h.same
  starts-left texts has (inr (inr (inr (inl h)))) = inr (record { texts = texts; has = has; holds = h })
  starts-left texts has (inr (inr (inr (inr h)))) = inl h.same

  texts-left : (texts : List NamedText) → IfSome shelf.told (λ files. HasTexts files wanted texts) → PerformsBy (HoldsPair before after) (work_on (runs wanted) texts) old new last
      → (new ≡ old) ⊎ PairTo wanted shelf.told before after old new last
  texts-left texts has h = go (trees_of (trees_wanted wanted texts)) h
    where
      go : (t : Result (List Data) End) → PerformsBy (HoldsPair before after) (or_end t (λ roots. starts (start_of wanted texts))) old new last
          → (new ≡ old) ⊎ PairTo wanted shelf.told before after old new last
      go (Err end) p = inl (ends-same end p)
      go (Ok roots) p = starts-left texts has p

  pub pair-left : PerformedBy (HoldsPair before after) (Some (runs wanted)) shelf old new last → (new ≡ old) ⊎ PairTo wanted shelf.told before after old new last
  pair-left h = go (has_too_many (runs wanted)) refl h.reads h.performs
    where
      by : (read : Read) → has_too_many (runs wanted) ≡ false → ReadsTo shelf (map book_file (run_names wanted)) read → PerformsBy (HoldsPair before after) (or_end read (work_on (runs wanted))) old new last
          → (new ≡ old) ⊎ PairTo wanted shelf.told before after old new last
      by (Err end) few reads p = inl (ends-same end p)
      by (Ok texts) few reads p = texts-left texts (has-texts shelf.told wanted reads.count texts few reads.reads) p

      go : (b : Bool) → b ≡ has_too_many (runs wanted) → ReadsTo shelf (if b then [] else map book_file (run_names wanted)) h.read
          → PerformsBy (HoldsPair before after) (if b then ends [] (past BookCount) else or_end h.read (work_on (runs wanted))) old new last → (new ≡ old) ⊎ PairTo wanted shelf.told before after old new last
      go true many reads p = inl (ends-same (past BookCount) p)
      go false few reads p = by h.read (sym few) reads p

-- ---- what it uses

module _ (before after : PeersView) (old mid new : SiteView) (last : End) (answer : ℕ) (tells : Tells last mid new answer) where
  last_line : SaysSome 1 mid new
  last_line = tells-some last mid new answer tells

  still : mid ≡ old → IsFew (opens_only []) old new
  still same = few-some 1 old new (omega arith) (subst (λ (s : SiteView). SaysSome 1 s new) same last_line)

  pub pair-uses : (wanted : RunRequest) (shelf : ShelfCall) → GoesAsPair (Some (runs wanted)) shelf before after old mid last → PairUsesFew wanted shelf.told before after old new
  pair-uses wanted shelf h = go (pair-left wanted before after shelf old mid last (goes-performed (Some (runs wanted)) before after shelf old mid last h))
    where
      by : (texts : List NamedText) (k : HoldsPair before after (start_of wanted texts) old mid last) (p : PairsSo k.given wanted.run wanted.most k.answers before after old mid last) → IsFew (pair_usage p) old new
      by texts k (inl u) = still u.same
      by texts k (inr p) = few-then (over_usage p.session.held) old mid new
          (few-over true (over_usage p.session.held) old mid p.first p.wire p.over (over-few k.given wanted.run wanted.most k.answers p.first.site p.wire.site p.how p.session.held)) last_line

      go : (mid ≡ old) ⊎ PairTo wanted shelf.told before after old mid last → PairUsesFew wanted shelf.told before after old new
      go (inl same) = inl (still same)
      go (inr k) = inr (
        record { texts = k.texts; has = k.has; last = last; between = mid; holds = k.holds; behind = tells-line last mid new answer tells },
        by k.texts k.holds k.holds.holds,
      )

  -- ---- filters

  leaves-port : (FailsToSay old mid × (last ≡ unsaid)) ⊎ ((mid ≡ old) × (last ≡ no_memory)) → IsFew (opens_only []) old new
  leaves-port (inl w) = few-some (1 + 1) old new (omega arith) (some-trans 1 1 old mid new (some-failed old mid w.0) last_line)
  leaves-port (inr w) = still w.0

  accepted : (between : PeersView) (said : SiteView) → SaysSome 0 old said → (a : Accepts between after said mid last ⊎ FailsToAccept between after said mid last) → IsFew (accepts_usage a) old new
  accepted between said one (inl a) = few-then (served_usage a.serves.how a.serves.first a.serves.wire a.serves.served) old mid new
      (few-behind (served_usage a.serves.how a.serves.first a.serves.wire a.serves.served) old said mid one
      (few-over false (served_usage a.serves.how a.serves.first a.serves.wire a.serves.served) said mid a.serves.first a.serves.wire a.serves.over (served-few a.serves.how a.serves.first a.serves.wire a.serves.served))) last_line
  accepted between said one (inr f) = few-some (0 + 1) old new (omega arith) (some-trans 0 1 old said new one (subst (λ (s : SiteView). SaysSome 1 s new) f.same last_line))

  ports : (port : ℕ) (between : PeersView) (g : SaysPort port between after old mid last ⊎ LeavesPort between after old mid last) → IsFew (port_usage g) old new
  ports port between (inl s) = accepted between s.said (some-line (port_line port) old s.said s.says) s.accepts
  ports port between (inr l) = leaves-port l.why

  serves-use : (h : ServesSo before after old mid last) → IsFew (filters_usage h) old new
  serves-use (inl b) = ports b.port b.between b.goes_on
  serves-use (inr (inl f)) = still f.same
  serves-use (inr (inr w)) = still w.same

  pub filters-use : ServesSo before after old mid last → FiltersUseFew before after old new
  filters-use h = (record { last = last; between = mid; serves = h; behind = tells-line last mid new answer tells }, serves-use h)
