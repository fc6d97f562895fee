-- How a call of `pair` goes: no session, or one.
use Rattle.std.proofs.Common.{◌≡◌, ◌⊎◌, inl, inr, ◌∙◌, refl, sym, ap, subst, arith, ℕ, ◌==◌, Bool, true, false, List, [], ◌∷◌, map, Option, Some, Result, Ok, Err}
use Rattle.std.specs.Prelude.{if◌then◌else◌}
use Rattle.std.proofs.lemmas.Bool.{true≢false}
use Rattle.serde_json.specs.Data.{Data}
use Rattle.cacao_site.specs.Counts.{next_count}
use Rattle.cacao_site.specs.View.{SiteView}
use Rattle.oc2_wire_link.specs.Peering.{PeersView}
use Rattle.cacao_cli_words.specs.Requests.{RunRequest}
use Rattle.cacao_cli_words.specs.Words.{Text}
use Rattle.cacao_cli_ends.specs.Asked.{Asked, runs}
use Rattle.cacao_cli_ends.specs.Comes.{IsOneOf}
use Rattle.cacao_cli_ends.specs.Ends.{End, is_fault, no_memory, not_readable, past, shelf_failed, status_of}
use Rattle.cacao_cli_ends.specs.Files.{NamedText, ReadsTo, ShelfCall, book_file, faults_behind, files_of, has_too_many, run_names}
use Rattle.cacao_cli_ends.specs.Lines.{SaysWork}
use Rattle.cacao_cli_ends.specs.Work.{Start, Work, ends, or_end, start_of, starts, trees_of, trees_wanted, work_on}
use Rattle.cacao_cli_ends.specs.declared.limit.Limit.TheVariants.{BookCount}
use Rattle.cacao_cli_ends.proofs.EndLemmas.{end-failed, no_cons}
use Rattle.cacao_cli_ends.proofs.ReadLemmas.{Read, empty-read}
use Rattle.cacao_cli_ends.proofs.StatusLists.{widen}
use Rattle.cacao_cli_ends.proofs.TreeCases.{TreesCase, all_trees, one_treeless, trees_case}
use Rattle.cacao_cli_starts.specs.Ended.{PerformedBy, PerformsBy}
use Rattle.cacao_cli_starts.proofs.CountLemmas.{read-status}
use Rattle.cacao_cli_starts.proofs.ReadyLemmas.{not-ready-performed}
use Rattle.cacao_cli_peers.specs.Pairing.{GoesAsPair, HoldsPair}

-- the statuses of a call that came to no session, but for a failed shelf
abbrev pub quiet_statuses : List ℕ
quiet_statuses = 1 ∷ 4 ∷ 5 ∷ 10 ∷ 11 ∷ []

pub data Outcome (before after : PeersView) (shelf : ShelfCall) (old new : SiteView) (last : End) : Type 0 where
  quiet : new ≡ old → IsOneOf (status_of last) quiet_statuses → shelf.after ≡ shelf.before → Outcome before after shelf old new last
  shelf_fails : (name : Text) → new ≡ old → last ≡ shelf_failed name → shelf.after ≡ next_count shelf.before → Outcome before after shelf old new last
  holds : (start : Start) → HoldsPair before after start old new last → shelf.after ≡ shelf.before → Outcome before after shelf old new last

-- what it did is told as of a `run`, with what became of its session
pub goes-performed : (asked : Option Asked) (before after : PeersView) (shelf : ShelfCall) (old new : SiteView) (last : End) → GoesAsPair asked shelf before after old new last
    → PerformedBy (HoldsPair before after) asked shelf old new last
goes-performed asked before after shelf old new last (inl h) = not-ready-performed (HoldsPair before after) asked shelf old new last h.0
goes-performed asked before after shelf old new last (inr h) = record {
  read = h.read;
  reads = h.reads;
  performs = subst (λ (w : Work). PerformsBy (HoldsPair before after) w old new last) (sym h.is) (inr (inr (inr (inl h.holds))));
}

module _ (before after : PeersView) (shelf : ShelfCall) (old new : SiteView) (last : End) where
  -- nothing was said, and the call ended so
  ends-outcome : (end : End) → IsOneOf (status_of end) quiet_statuses → shelf.after ≡ shelf.before → SaysWork [] end old new last → Outcome before after shelf old new last
  ends-outcome end one same (inl h) = quiet h.says (subst (λ (e : End). IsOneOf (status_of e) quiet_statuses) (sym h.ends) one) same
  ends-outcome end one same (inr (inl h)) = absurd (no_cons h.front h.behind h.line h.line h.is)
  ends-outcome end one same (inr (inr h)) = quiet h.same (subst (λ (e : End). IsOneOf (status_of e) quiet_statuses) (sym h.ends) (inr (inr (inr (inl refl))))) same

  fails-outcome : (name : Text) (end : End) → end ≡ shelf_failed name → shelf.after ≡ next_count shelf.before → SaysWork [] end old new last → Outcome before after shelf old new last
  fails-outcome name end is same (inl h) = shelf_fails name h.says (h.ends ∙ is) same
  fails-outcome name end is same (inr (inl h)) = absurd (no_cons h.front h.behind h.line h.line h.is)
  fails-outcome name end is same (inr (inr h)) = absurd (true≢false (sym (ap is_fault is) ∙ h.no_fault))

  -- a session may begin
  starts-outcome : (start : Start) → shelf.after ≡ shelf.before → PerformsBy (HoldsPair before after) (starts start) old new last → Outcome before after shelf old new last
  starts-outcome start same (inl h) = quiet h.same (subst (λ (e : End). IsOneOf (status_of e) quiet_statuses) (sym h.ends) (inr (inr (inl refl)))) same
  starts-outcome start same (inr (inl h)) = quiet h.same (subst (λ (e : End). IsOneOf (status_of e) quiet_statuses) (sym h.ends) (inl refl)) same
  starts-outcome start same (inr (inr (inl h))) = quiet h.same (subst (λ (e : End). IsOneOf (status_of e) quiet_statuses) (sym h.ends) (inl refl)) same
  starts-outcome start same (inr (inr (inr (inl h)))) = holds start h same
  starts-outcome start same (inr (inr (inr (inr h)))) = quiet h.same (subst (λ (e : End). IsOneOf (status_of e) quiet_statuses) (sym h.ends) (inr (inr (inr (inl refl))))) same

  texts-outcome : (wanted : RunRequest) (texts : List NamedText) → shelf.after ≡ shelf.before → PerformsBy (HoldsPair before after) (work_on (runs wanted) texts) old new last → Outcome before after shelf old new last
  texts-outcome wanted texts same h = go (trees_case (trees_wanted wanted texts))
    where
      at : (r : Result (List Data) End) → trees_of (trees_wanted wanted texts) ≡ r → PerformsBy (HoldsPair before after) (or_end r (λ roots. starts (start_of wanted texts))) old new last
      at r e = subst (λ (x : Result (List Data) End). PerformsBy (HoldsPair before after) (or_end x (λ roots. starts (start_of wanted texts))) old new last) e h

      go : TreesCase (trees_wanted wanted texts) → Outcome before after shelf old new last
      go (all_trees roots r e) = starts-outcome (start_of wanted texts) same (at (Ok roots) e)
      go (one_treeless name reason t e) = ends-outcome (not_readable name reason) (inr (inr (inl refl))) same (at (Err (not_readable name reason)) e)

  file-outcome : (end : End) → IsOneOf (status_of end) (3 ∷ 4 ∷ 10 ∷ 11 ∷ []) → shelf.after ≡ (if status_of end == 3 then next_count shelf.before else shelf.before) → SaysWork [] end old new last
      → Outcome before after shelf old new last
  file-outcome end (inl e) is h =
      let three : (status_of end == 3) ≡ true = grind (arith, e) in
      fails-outcome (end-failed end e).0 end (end-failed end e).1 (is ∙ ap (λ (b : Bool). if b then next_count shelf.before else shelf.before) three) h
  file-outcome end (inr one) is h =
      ends-outcome end (widen (status_of end) (4 ∷ 10 ∷ 11 ∷ []) quiet_statuses refl one) (is ∙ ap (λ (b : Bool). if b then next_count shelf.before else shelf.before) (other (status_of end) one)) h
    where
      other : (n : ℕ) → IsOneOf n (4 ∷ 10 ∷ 11 ∷ []) → (n == 3) ≡ false
      other n (inl e) = grind (arith, e)
      other n (inr (inl e)) = grind (arith, e)
      other n (inr (inr (inl e))) = grind (arith, e)
      other n (inr (inr (inr h))) = absurd h

  pub pair-outcome : (wanted : RunRequest) → PerformedBy (HoldsPair before after) (Some (runs wanted)) shelf old new last → Outcome before after shelf old new last
  pair-outcome wanted h = go (has_too_many (runs wanted)) refl h.reads h.performs
    where
      by : (read : Read) → ReadsTo shelf (map book_file (run_names wanted)) read → PerformsBy (HoldsPair before after) (or_end read (work_on (runs wanted))) old new last → Outcome before after shelf old new last
      by (Err end) reads performs = file-outcome end (read-status shelf.told (map book_file (run_names wanted)) reads.count (Err end) end reads.reads refl) reads.faults performs
      by (Ok texts) reads performs = texts-outcome wanted texts reads.faults performs

      go : (b : Bool) → b ≡ has_too_many (runs wanted) → ReadsTo shelf (if b then [] else map book_file (run_names wanted)) h.read
          → PerformsBy (HoldsPair before after) (if b then ends [] (past BookCount) else or_end h.read (work_on (runs wanted))) old new last → Outcome before after shelf old new last
      go true many reads performs =
          let none : h.read ≡ Ok [] = (empty-read shelf.told reads.count h.read reads.reads).1 in
          ends-outcome (past BookCount) (inr (inr (inr (inr (inl refl))))) (reads.faults ∙ ap (faults_behind shelf.before) none) performs
      go false few reads performs = by h.read reads performs
