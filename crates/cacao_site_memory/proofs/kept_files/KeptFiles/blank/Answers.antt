-- No file has a byte.
use Rattle.std.proofs.Common.{List, ℕ, [], ◌∷◌, ◌++◌, ◌∙◌, ap, refl, get_or, replicate}
use Rattle.cacao_site_memory.proofs.KeptLemmas.{keeps-none}
use Rattle.cacao_site_memory.proofs.PageLemmas.{byte-blank, pages-blank, zero_at, zero_in}
use Rattle.cacao_site_memory.proofs.kept_files.KeptFiles.blank.Goals as goal

abbrev zeros : List ℕ
zeros = 0 ∷ 0 ∷ 0 ∷ 0 ∷ 0 ∷ 0 ∷ 0 ∷ 0 ∷ 0 ∷ 0 ∷ 0 ∷ 0 ∷ 0 ∷ 0 ∷ 0 ∷ 0 ∷ 0 ∷ 0 ∷ 0 ∷ 0 ∷ 0 ∷ 0 ∷ 0 ∷ 0 ∷ 0 ∷ 0 ∷ 0 ∷ 0 ∷ 0 ∷ 0 ∷ 0 ∷ 0 ∷ []

pub invariant_of-result-clause-paged : goal.invariant_of-result-clause-paged
invariant_of-result-clause-paged c =
    pages-blank c.in_ok-table.table.items c.add_zeros.new.bytes.items
    (λ s. ap (λ (l : List ℕ). get_or l s 0) c.in_ok-table.ensures ∙ zero_at _ s)
    (c.add_zeros.ensures.items ∙ ap (λ (l : List ℕ). l ++ replicate 4096 0) c.in_ok-pages.ensures.items)

pub returns : goal.returns
returns c = λ file low.
    keeps-none _ file (zero_in zeros file refl)
    (byte-blank c.in_ok-table.table.items c.add_zeros.new.bytes.items
    (λ s. ap (λ (l : List ℕ). get_or l s 0) c.in_ok-table.ensures ∙ zero_at _ s)
    (λ k. ap (λ (l : List ℕ). get_or l k 0) c.add_zeros.ensures.items ∙ ap (λ (l : List ℕ). get_or (l ++ replicate 4096 0) k 0) c.in_ok-pages.ensures.items ∙ zero_at 4096 k) file)
