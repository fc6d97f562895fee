-- A new site in memory is blank.
use Rattle.std.proofs.Common.{◌≡◌, inl, ℕ, zero, suc, List, [], ◌∷◌, refl, sym, subst, arith}
use Rattle.std.specs.Prelude.{IfOk, IsTrue, Result, Ok, Err, slice_index_or}
use Rattle.cacao_site.specs.Clock.{clock_at}
use Rattle.cacao_site.specs.SiteCounts.{no_counts}
use Rattle.cacao_site.specs.View.{SiteView}
use Rattle.cacao_site_log.specs.Images.{rest-image}
use Rattle.cacao_site_log.specs.Replay.{after_all, at_rest, file_after, is_image}
use Rattle.cacao_site_memory.specs.MemorySite.{view_of}
use Rattle.cacao_site_memory.specs.MemoryView.{memory_view, no_link}
use Rattle.cacao_site_memory.specs.declared.site.MemorySite.{MemorySite}
use Rattle.run_journal.specs.Layout.{Stands}
use Rattle.flow_laws.specs.Held.{plain}
use Rattle.flow_laws.specs.Sessions.{IsBlank}
use Rattle.cacao_cli_life.specs.Lives.{BeginsLife}
use Rattle.cacao_cli_life.specs.Lives.Life.{begins}

no_start : (file : ℕ) (starts : List (List ℕ)) → starts ≡ [] → slice_index_or starts file [] ≡ []
no_start zero [] e = refl
no_start (suc file) [] e = refl
no_start file (start ∷ starts) e = absurd (cc)

no_image : (file : ℕ) (image : List ℕ) → IsTrue (is_image (file_after [] [] file) image) → image ≡ []
unfolding after_all
no_image file image left = rest-image [] image (subst (λ (start : List ℕ). IsTrue (is_image (at_rest start) image)) (no_start file [] refl) left)

stands_none : Stands [] []
stands_none = inl (omega arith, refl)

abbrev new_view : ℕ → SiteView
new_view now = memory_view [] [] 0 0 0 0 0 no_link (clock_at now) no_counts

is_blank : (now : ℕ) → IsBlank plain (new_view now)
unfolding is_image
is_blank now = record {
  empty = λ file image small left. subst (λ (i : List ℕ). Stands i []) (sym (no_image file image left)) stands_none;
  none_put = refl;
  silent = λ bytes said line. absurd (omega (arith, said.has.1));
}

pub begins_life : (now : ℕ) (site : SiteView) → site ≡ memory_view [] [] 0 0 0 0 0 no_link (clock_at now) no_counts → BeginsLife site
begins_life now site is = subst BeginsLife (sym is) (record {
  tells = record { files = refl; puts = refl; pending = refl };
  life = begins (new_view now) (is_blank now);
})

pub first_begins : {E : Type 0} (now : ℕ) (r : Result MemorySite E) → IfOk r (λ site. view_of site ≡ memory_view [] [] 0 0 0 0 0 no_link (clock_at now) no_counts)
    → IfOk r (λ site. BeginsLife (view_of site))
first_begins now (Ok site) is = begins_life now (view_of site) is
first_begins now (Err e) is = tt
