-- What a call uses that asks for a fleet.
use Rattle.std.proofs.Common.{◌≡◌, ◌⊎◌, inl, inr, refl, sym, subst, arith, ℕ, ◌+◌, ◌*◌, ◌≤◌, Bool, true, false, List, [], ◌∷◌, ◌++◌, length, Option, Some, None, codes}
use Rattle.std.specs.Prelude.{IfSome}
use Rattle.cacao_site.specs.View.{SiteView, device_calls}
use Rattle.flow_world_steps.specs.Sums.{total}
use Rattle.cacao_cli_fleets.specs.Fleets.{FleetRefused}
use Rattle.cacao_cli_fleets.specs.Costs.{EachFleetCloseUsesFew, EachFleetRefusalUsesFew, FleetWentFew, RefusedFew, UsesFew, tried_files}
use Rattle.cacao_cli_fleets.specs.Laws.{FleetWent}
use Rattle.cacao_cli_fleets.specs.Openings.{Runs}
use Rattle.cacao_cli_fleets.specs.FleetError.{FleetError}
use Rattle.cacao_cli_words.specs.Requests.{FleetRequest}
use Rattle.cacao_cli_words.specs.Words.{Text}
use Rattle.cacao_cli_ends.specs.Files.{ShelfCall}
use Rattle.cacao_cli_ends.proofs.SayingLemmas.{AreTold, SaysSome, Tallies, some-failed, some-line, some-more, some-same, tells-some}
use Rattle.cacao_cli_status_laws.specs.Usage.{IsFew, Usage, blocks, opens_only}
use Rattle.cacao_cli_peers.proofs.FewLemmas.{few-some}
use Rattle.cacao_cli_fleets.specs.FleetEnds.{FleetEnd, SaysEnd, TellsFleet, asked_of, failed, other_book_of, plain, used_by}
use Rattle.cacao_cli_fleets.specs.Fleeting.{ClosesFleet, GoesAsFleet, RefusesFleet}
use Rattle.cacao_cli_fleets.proofs.EndLemmas.{asked_text, failed_text, other_text, used_text}
use Rattle.cacao_cli_fleets.proofs.StandLemmas.{line-still}
use Rattle.cacao_cli.specs.FleetUsage.{HeldUsesFew, RefusedUsesFew, UsesFewAsFleet, WentUsesFew, fleet_usage}
use Rattle.cacao_cli.specs.WithFleets.{WantsForWords}
use Rattle.cacao_cli.proofs.FleetLemmas.{some-none}

-- ---- the last line

says-some : (text : Text) (status : ℕ) (mid new : SiteView) (answer : ℕ) → SaysEnd text status mid new answer → SaysSome 1 mid new
says-some text status mid new answer (inl (inl h)) = some-more 0 mid new (omega arith) (some-line (text ++ codes "\n") mid new h.says)
says-some text status mid new answer (inl (inr h)) = some-failed mid new h.fails
says-some text status mid new answer (inr h) = some-same 1 mid new h.same

line-some : (last : FleetEnd) (mid new : SiteView) (answer : ℕ) → TellsFleet last mid new answer → SaysSome 1 mid new
line-some (plain end) mid new answer h = tells-some end mid new answer h
line-some (failed run) mid new answer h = says-some (failed_text run) 6 mid new answer h
line-some (asked_of run issue) mid new answer h = says-some (asked_text run issue) 16 mid new answer h
line-some (other_book_of run index) mid new answer h = says-some (other_text run index) 12 mid new answer h
line-some (used_by run agent) mid new answer h = says-some (used_text run agent) 12 mid new answer h

last-call : (x y z n b e : ℕ) (p q r : Option (List (ℕ × Text))) → AreTold q r
    → IfSome p (λ (before : List (ℕ × Text)). IfSome q (λ (after : List (ℕ × Text)). y + length before ≤ x + length after + 5 + n + b + e)) → Tallies 1 y z q r
    → IfSome p (λ (before : List (ℕ × Text)). IfSome r (λ (after : List (ℕ × Text)). z + length before ≤ x + length after + 10 + n + b + e))
last-call x y z n b e None q r told few says = tt
last-call x y z n b e (Some p) q None told few says = tt
last-call x y z n b e (Some p) None (Some r) told few says = absurd told
last-call x y z n b e (Some p) (Some q) (Some r) told few says = omega (arith, few, says)

few-behind : (usage : Usage) (old mid new : SiteView) → UsesFew usage.opened usage.appended usage.failed old mid → SaysSome 1 mid new → IsFew usage old new
few-behind usage old mid new few says = record {
  calls = λ told. last-call (device_calls old) (device_calls mid) (device_calls new) (5 * length usage.opened) (total blocks usage.opened) (4 * length usage.appended)
      old.link.said mid.link.said new.link.said says.told (few.calls told) says.calls;
  disk_calls = λ told. let calls = few.disk_calls told in let same = says.disk_calls in omega (arith, calls, same);
  written = let w = few.written in let s = says.disk.written in omega (arith, w, s);
  one = few.one;
}

-- ---- a fleet

went-uses : (runs : Runs) (most : ℕ) (old mid new : SiteView) (went : FleetWent runs most old mid) → FleetWentFew runs most old mid went → SaysSome 1 mid new → WentUsesFew went new
went-uses runs most old mid new went few says = (few.adds, few-behind (fleet_usage went few.adds) old mid new few.few says)

refused-uses : (error : FleetError) (runs : Runs) (most : ℕ) (old mid new : SiteView) (refused : FleetRefused error runs most old mid) → RefusedFew refused → SaysSome 1 mid new → RefusedUsesFew refused new
refused-uses error runs most old mid new (inl opening) few says = few-behind (opens_only (tried_files opening)) old mid new few says
refused-uses error runs most old mid new (inr later) few says = went-uses runs most old mid new later.went few says

module _ (each_close : EachFleetCloseUsesFew) (each_refusal : EachFleetRefusalUsesFew) where
  held-uses : (runs : Runs) (most : ℕ) (old mid new : SiteView) (last : FleetEnd) (held : ClosesFleet runs most old mid last ⊎ RefusesFleet runs most old mid last) → SaysSome 1 mid new → HeldUsesFew held new
  held-uses runs most old mid new last (inl c) says = went-uses runs most old mid new c.closed.went (each_close c.close runs most old mid c.closed) says
  held-uses runs most old mid new last (inr r) says = refused-uses r.error runs most old mid new r.refused (each_refusal r.error runs most old mid r.refused) says

  pub fleet-uses : (wanted : FleetRequest) (shelf : ShelfCall) (old mid new : SiteView) (last : FleetEnd) (answer : ℕ) → GoesAsFleet wanted shelf old mid last → TellsFleet last mid new answer
      → UsesFewAsFleet (Some wanted) old new
  fleet-uses wanted shelf old mid new last answer goes tells = go goes
    where
      says : SaysSome 1 mid new
      says = line-some last mid new answer tells

      still : mid ≡ old → IsFew (opens_only []) old new
      still same = few-some 1 old new (omega arith) (subst (λ (s : SiteView). SaysSome 1 s new) same says)

      go : GoesAsFleet wanted shelf old mid last → UsesFewAsFleet (Some wanted) old new
      go (inl h) = inl (still h.same)
      go (inr (inl h)) = inl (still h.same)
      go (inr (inr h)) = inr (record {
        runs = h.runs;
        numbered = h.ready.numbered;
        between = mid;
        last = last;
        held = h.holds.held;
        behind = line-still last mid new answer tells;
        few = held-uses h.runs wanted.most old mid new last h.holds.held says;
      })

-- ---- by the words

pub uses-fleet : (asked : Option FleetRequest) (wanted : FleetRequest) (old new : SiteView) → asked ≡ Some wanted → UsesFewAsFleet (Some wanted) old new → UsesFewAsFleet asked old new
uses-fleet asked wanted old new is h = subst (λ (a : Option FleetRequest). UsesFewAsFleet a old new) (sym is) h

-- words that ask for none, or for which memory was wanted
pub uses-none : (asked : Option FleetRequest) (short : Bool) (shelf : ShelfCall) (old new : SiteView) (answer : ℕ) → (short ≡ false → asked ≡ None) → (short ≡ true → WantsForWords shelf old new answer) → UsesFewAsFleet asked old new
uses-none None short shelf old new answer none wants = tt
uses-none (Some wanted) short shelf old new answer none wants = go short refl
  where
    go : (b : Bool) → b ≡ short → UsesFewAsFleet (Some wanted) old new
    go false is = absurd (some-none wanted refl (none (sym is)))
    go true is = inl (few-some 1 old new (omega arith) (some-same 1 old new (wants (sym is)).same))
