-- A call that works with a peer leaves the link of its own site as it is.
use Rattle.std.proofs.Common.{◌≡◌, ◌⊎◌, inl, inr, ◌∙◌, sym, subst, ℕ, List, Option, Some}
use Rattle.cacao_site.specs.LinkCalls.{Keeps}
use Rattle.cacao_site.specs.SayCalls.{SaysOnly}
use Rattle.cacao_site.specs.View.{SiteView}
use Rattle.cacao_site.specs.declared.parcel.Parcel.{Parcel}
use Rattle.oc2_wire_link.specs.Peering.{PeersView}
use Rattle.cacao_cli_words.specs.Requests.{RunRequest}
use Rattle.cacao_cli_ends.specs.Asked.{runs}
use Rattle.cacao_cli_ends.specs.Ends.{End, no_memory, unsaid}
use Rattle.cacao_cli_ends.specs.Files.{ShelfCall}
use Rattle.cacao_cli_ends.specs.Lines.{FailsToSay, Tells}
use Rattle.cacao_cli_ends.proofs.SayingLemmas.{SaysSome, tells-some}
use Rattle.cacao_cli_peers.specs.FilterServing.{Accepts, FailsToAccept, LeavesPort, SaysPort, ServesSo}
use Rattle.cacao_cli_peers.specs.Pairing.{GoesAsPair, PairsSo}
use Rattle.cacao_cli_peers.specs.SitesBeneath.{LeavesLink}
use Rattle.cacao_cli_peers.proofs.BeneathLemmas.{leaves-line, leaves-more, leaves-refl, same-keeps}
use Rattle.cacao_cli_peers.proofs.OutcomeLemmas.{goes-performed}
use Rattle.cacao_cli_peers.proofs.UseLemmas.{PairTo, pair-left}

-- lines were said behind it
leaves-said : (was now later : SiteView) (k : ℕ) → SaysSome k now later → LeavesLink was now → LeavesLink was later
leaves-said was now later k says leaves = leaves-more was now later leaves says.link.puts says.link.taken says.link.empty_takes (same-keeps now.link.pending later.link.pending says.link.pending) says.mishaps

-- one was said before it
leaves-from : (old said mid : SiteView) → SaysOnly old said → LeavesLink said mid → LeavesLink old mid
leaves-from old said mid says leaves = record {
  puts = leaves.puts ∙ says.puts;
  taken = leaves.taken ∙ says.taken;
  empty_takes = leaves.empty_takes ∙ says.empty_takes;
  pending = subst (λ (o : Option (List Parcel)). ∥ Keeps o mid.link.pending ∥₁) says.pending leaves.pending;
  mishaps = leaves.mishaps ∙ says.mishaps;
}

leaves-same : (old new : SiteView) → new ≡ old → LeavesLink old new
leaves-same old new e = subst (λ (s : SiteView). LeavesLink old s) (sym e) (leaves-refl old)

module _ (before after : PeersView) (old mid new : SiteView) (last : End) (answer : ℕ) (tells : Tells last mid new answer) where
  behind : LeavesLink old mid → LeavesLink old new
  behind leaves = leaves-said old mid new 1 (tells-some last mid new answer tells) leaves

  pub pair-leaves : (wanted : RunRequest) (shelf : ShelfCall) → GoesAsPair (Some (runs wanted)) shelf before after old mid last → LeavesLink old new
  pair-leaves wanted shelf h = behind (go (pair-left wanted before after shelf old mid last (goes-performed (Some (runs wanted)) before after shelf old mid last h)))
    where
      go : (mid ≡ old) ⊎ PairTo wanted shelf.told before after old mid last → LeavesLink old mid
      go (inl same) = leaves-same old mid same
      go (inr k) = by k.holds.holds
        where
          by : PairsSo k.holds.given wanted.run wanted.most k.holds.answers before after old mid last → LeavesLink old mid
          by (inl u) = leaves-same old mid u.same
          by (inr p) = p.over.leaves

  accepted : (between : PeersView) (said : SiteView) → Accepts between after said mid last ⊎ FailsToAccept between after said mid last → LeavesLink said mid
  accepted between said (inl a) = a.serves.over.leaves
  accepted between said (inr f) = leaves-same said mid f.same

  leaves-port : (FailsToSay old mid × (last ≡ unsaid)) ⊎ ((mid ≡ old) × (last ≡ no_memory)) → LeavesLink old mid
  leaves-port (inl w) = leaves-line old old mid (leaves-refl old) w.0.only
  leaves-port (inr w) = leaves-same old mid w.0

  ports : (port : ℕ) (between : PeersView) → SaysPort port between after old mid last ⊎ LeavesPort between after old mid last → LeavesLink old mid
  ports port between (inl s) = leaves-from old s.said mid s.says.only (accepted between s.said s.accepts)
  ports port between (inr l) = leaves-port l.why

  pub filters-leave : ServesSo before after old mid last → LeavesLink old new
  filters-leave (inl b) = behind (ports b.port b.between b.goes_on)
  filters-leave (inr (inl f)) = behind (leaves-same old mid f.same)
  filters-leave (inr (inr w)) = behind (leaves-same old mid w.same)
