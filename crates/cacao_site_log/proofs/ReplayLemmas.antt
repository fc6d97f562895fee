-- A file after one entry more of the record.
use Rattle.std.proofs.Common.{◌≡◌, ℕ, ◌+◌, ◌<◌, ◌≤◌, List, length, take, slice_index_or, refl, ◌∙◌, ap}
use Rattle.std.proofs.lemmas.List.{take_more, take_all}
use Rattle.cacao_site_log.specs.declared.entry.Entry.{Entry}
use Rattle.cacao_site_log.specs.Entries.{call_of, calls_of}
use Rattle.cacao_site_log.specs.Replay.{FileState, after, after_all}
use Rattle.cacao_site_log.proofs.EntryLemmas.{calls_of-push}
use Rattle.cacao_site_log.proofs.Logged.{after_all-push}

-- the file after the first i entries
abbrev pub file_at : ℕ → FileState → List ℕ → List Entry → ℕ → FileState
file_at file state bytes entries i = after_all file state (calls_of bytes (take i entries))

pub file_at-zero : (file : ℕ) (state : FileState) (bytes : List ℕ) (entries : List Entry) → file_at file state bytes entries 0 ≡ state
unfolding after_all
file_at-zero file state bytes entries = refl

pub file_at-more : (file : ℕ) (state : FileState) (bytes : List ℕ) (entries : List Entry) (i : ℕ) (d : Entry) → i < length entries
    → file_at file state bytes entries (i + 1) ≡ after file (file_at file state bytes entries i) (call_of bytes (slice_index_or entries i d))
file_at-more file state bytes entries i d lt =
    ap (λ (l : List Entry). after_all file state (calls_of bytes l)) (take_more entries i d lt)
    ∙ ap (after_all file state) (calls_of-push bytes (take i entries) (slice_index_or entries i d))
    ∙ after_all-push file state (calls_of bytes (take i entries)) (call_of bytes (slice_index_or entries i d))

pub file_at-all : (file : ℕ) (state : FileState) (bytes : List ℕ) (entries : List Entry) (i : ℕ) → length entries ≤ i
    → file_at file state bytes entries i ≡ after_all file state (calls_of bytes entries)
file_at-all file state bytes entries i le = ap (λ (l : List Entry). after_all file state (calls_of bytes l)) (take_all i entries le)
