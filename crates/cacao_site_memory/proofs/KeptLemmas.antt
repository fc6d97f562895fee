-- What is kept of each file, after one call more.
use Rattle.std.proofs.Common.{◌≡◌, ◌≢◌, ℕ, ◌+◌, ◌<◌, ◌≤◌, max, Bool, true, false, if◌then◌else◌, List, [], ◌∷◌, ◌++◌, length, slice_index_or, refl, sym, ◌∙◌, ap, subst, arith, inl, inr}
use Rattle.std.proofs.lemmas.Bool.{cases_eq}
use Rattle.std.proofs.lemmas.List.{append-nil, drop_all}
use Rattle.cacao_site_log.specs.Images.{length-spliced, spliced-at}
use Rattle.cacao_site_memory.specs.KeptFiles.{length_of, is_whole, byte_of, Keeps, AreKept}
use Rattle.cacao_site_log.specs.Replay.{Call, looked, wrote, tried, flushed, FileState, at_rest, touch, spliced, byte_after, after, after_all, file_after}
use Rattle.cacao_site_memory.specs.declared.kept_files.KeptFiles.{KeptFiles}
use Rattle.cacao_site_log.proofs.Logged.{after_all-push, after-wrote, on-wrote}

-- a file after a write
pub keeps-written : (kept kept' : KeptFiles) (file at : ℕ) (bytes : List ℕ) → length_of kept' file ≡ max (length_of kept file) (at + length bytes)
    → (is_whole kept' file ≡ true → is_whole kept file ≡ true)
    → (is_whole kept' file ≡ true → (place : ℕ) → byte_of kept' file place ≡ byte_after at bytes place (byte_of kept file place))
    → (was : List ℕ) → Keeps kept file was → Keeps kept' file (spliced at bytes was)
keeps-written kept kept' file at bytes longer was_whole written was k = record {
  long = longer ∙ ap (λ n. max n (at + length bytes)) k.long ∙ sym (length-spliced at bytes was);
  each = λ whole place. written whole place ∙ ap (byte_after at bytes place) (k.each (was_whole whole) place) ∙ sym (spliced-at at bytes was place);
}

-- a file of no byte
pub keeps-none : (kept : KeptFiles) (file : ℕ) → length_of kept file ≡ 0 → ((place : ℕ) → byte_of kept file place ≡ 0) → Keeps kept file []
keeps-none kept file long zeros = record { long = long; each = λ whole place. zeros place }

-- the bytes of a file that had none
pub spliced-none : (bytes : List ℕ) → spliced 0 bytes [] ≡ bytes
spliced-none bytes = ap (λ (l : List ℕ). bytes ++ l) (drop_all (0 + length bytes) [] (omega arith)) ∙ append-nil bytes

-- the first files are there, and the others are blank
pub record AreThereUpTo (starts : List (List ℕ)) (kept : KeptFiles) (n : ℕ) : Type 0 where
  pub there : (file : ℕ) → file < n → file ≤ 31 → Keeps kept file (slice_index_or starts file [])
  pub blank : (file : ℕ) → n ≤ file → file ≤ 31 → Keeps kept file []

pub there-more : (starts : List (List ℕ)) (kept kept' : KeptFiles) (file : ℕ) (bytes : List ℕ) → file ≤ 31 → bytes ≡ slice_index_or starts file []
    → ((was : List ℕ) → Keeps kept file was → Keeps kept' file (spliced 0 bytes was))
    → ((other : ℕ) (was : List ℕ) → other ≤ 31 → other ≢ file → Keeps kept other was → Keeps kept' other was)
    → AreThereUpTo starts kept file → AreThereUpTo starts kept' (file + 1)
there-more starts kept kept' file bytes low is written others so_far = record {
  there = λ other lt most. elim (cases_eq other file) [
    | inl here ↦
        subst (λ n. Keeps kept' n (slice_index_or starts n [])) (sym here)
        (subst (λ (l : List ℕ). Keeps kept' file l) (spliced-none bytes ∙ is) (written [] (so_far.blank file (omega arith) low)))
    | inr ne ↦ others other _ most ne (so_far.there other (omega (arith, lt, ne)) most)
  ];
  blank = λ other le most. others other [] most (λ e. omega (arith, le, e)) (so_far.blank other (omega (arith, le)) most);
}

pub there-all : (starts : List (List ℕ)) (kept : KeptFiles) (n : ℕ) → 32 ≤ n → AreThereUpTo starts kept n → AreKept starts [] kept
unfolding after_all
there-all starts kept n le so_far = record { each = λ file low. so_far.there file (omega (arith, le, low)) low }

reads_after : (starts : List (List ℕ)) (log log' : List Call) (call : Call) (file : ℕ) → log' ≡ log ++ call ∷ []
    → (file_after starts log' file).reads ≡ (after file (file_after starts log file) call).reads
reads_after starts log log' call file is =
    ap (λ (l : List Call). (file_after starts l file).reads) is
    ∙ ap (λ (s : FileState). s.reads) (after_all-push file (at_rest (slice_index_or starts file [])) log call)

-- a call that changes no file
abbrev pub Reads : Call → Type 0
Reads call = (file : ℕ) (state : FileState) → (after file state call).reads ≡ state.reads

same_reads : (b : Bool) (s t : FileState) → s.reads ≡ t.reads → (if b then s else t).reads ≡ t.reads
same_reads true s t e = e
same_reads false s t e = refl

kept-same : (starts : List (List ℕ)) (log log' : List Call) (call : Call) (kept : KeptFiles) → Reads call → log' ≡ log ++ call ∷ [] → AreKept starts log kept → AreKept starts log' kept
kept-same starts log log' call kept same is so_far = record {
  each = λ file low. subst (λ (l : List ℕ). Keeps kept file l) (sym (reads_after starts log log' call file is ∙ same file (file_after starts log file))) (so_far.each file low);
}

pub kept-looked : (starts : List (List ℕ)) (log log' : List Call) (kept : KeptFiles) → log' ≡ log ++ looked ∷ [] → AreKept starts log kept → AreKept starts log' kept
kept-looked starts log log' kept = kept-same starts log log' looked kept (λ file state. refl)

pub kept-tried : (starts : List (List ℕ)) (log log' : List Call) (file at size : ℕ) (kept : KeptFiles) → log' ≡ log ++ tried file at size ∷ [] → AreKept starts log kept → AreKept starts log' kept
kept-tried starts log log' file at size kept = kept-same starts log log' (tried file at size) kept (λ other state. same_reads _ (touch at size state.reads state) state refl)

pub kept-flushed : (starts : List (List ℕ)) (log log' : List Call) (file : ℕ) (kept : KeptFiles) → log' ≡ log ++ flushed file ∷ [] → AreKept starts log kept → AreKept starts log' kept
kept-flushed starts log log' file kept = kept-same starts log log' (flushed file) kept (λ other state. same_reads _ (at_rest state.reads) state refl)

pub kept-wrote : (starts : List (List ℕ)) (log log' : List Call) (file at : ℕ) (bytes : List ℕ) (kept kept' : KeptFiles) → log' ≡ log ++ wrote file at bytes ∷ []
    → ((was : List ℕ) → Keeps kept file was → Keeps kept' file (spliced at bytes was))
    → ((other : ℕ) (was : List ℕ) → other ≤ 31 → other ≢ file → Keeps kept other was → Keeps kept' other was)
    → AreKept starts log kept → AreKept starts log' kept'
kept-wrote starts log log' file at bytes kept kept' is written others so_far = record {
  each = λ number low. elim (cases_eq number file) [
    | inl here ↦
        subst (λ n. Keeps kept' n (file_after starts log' n).reads) (sym here)
        (subst (λ (l : List ℕ). Keeps kept' file l)
        (sym (reads_after starts log log' (wrote file at bytes) file is ∙ ap (λ (s : FileState). s.reads) (after-wrote file at bytes (file_after starts log file))))
        (written _ (subst (λ n. Keeps kept n (file_after starts log n).reads) here (so_far.each number low))))
    | inr ne ↦
        subst (λ (l : List ℕ). Keeps kept' number l)
        (sym (reads_after starts log log' (wrote file at bytes) number is ∙ ap (λ (s : FileState). s.reads) (on-wrote file at bytes number ne (file_after starts log number))))
        (others number _ low ne (so_far.each number low))
  ];
}

pub ruleset kept_steps = (kept-looked, kept-tried, kept-flushed, kept-wrote)
