use Rattle.std.proofs.Common.{ℕ, ◌≤◌, List}
use Rattle.std.specs.List.{AllWithin}
use Rattle.cacao_site_log.specs.declared.entry.Entry.{Entry}
use Rattle.cacao_site_log.specs.Entries.{IsNoSync, IsRestAt}
use Rattle.cacao_site_log.proofs.tear.last_sync.Given as goal

-- the last sync among the first i entries is the one before `found`, if there is one
pub record IsLastUpTo (file : ℕ) (entries : List Entry) (found i : ℕ) : Type 0 where
  pub bound : found ≤ i
  pub rests : IsRestAt file entries found
  pub none : AllWithin (IsNoSync file) entries found i

abbrev pub invariant-loop-i : goal.invariant-loop-i
invariant-loop-i l = IsLastUpTo l.file l.entries l.found l.i
