-- Calls that leave of each file's images only such as it had.
use Rattle.std.proofs.Common.{inl, inr, ℕ, sym, ◌∙◌, subst, ap, IsTrue, arith}
use Rattle.std.proofs.lemmas.Bool.{cases_eq, cases_lt}
use Rattle.cacao_site.specs.DiskCalls.{IsLeft}
use Rattle.cacao_site.specs.View.{LinkView}
use Rattle.cacao_site.proofs.Beats.{goes_on-trans}
use Rattle.flow_laws.proofs.Basics.{positive}
use Rattle.flow_fleet_laws.specs.Shrinking.{FileShrinks, FiltersShrink, KeptShrinks, ShrinksOn}

pub file_shrinks : FileShrinks
file_shrinks file old new told only = record {
  goes_on = only.each.goes_on;
  images = λ other beat image from to left. elim (cases_eq other file) [
    | inl is ↦ subst (λ (n : ℕ). IsLeft old.disk n old.disk.beat image) (sym is)
        (only.each.each told beat image from to (subst (λ (n : ℕ). IsLeft new.disk n beat image) is left))
    | inr ne ↦ subst IsTrue ((only.others other ne).images beat image from to) left
  ];
  puts = ap (λ (l : LinkView). l.puts) only.rest.link;
  said = ap (λ (l : LinkView). l.said) only.rest.link;
}

pub filters_shrink : FiltersShrink
filters_shrink n old new on images others rest = record {
  goes_on = on;
  images = λ file beat image from to left. elim (cases_eq file 0) [
    | inl zero_is ↦ subst IsTrue ((others file (inl zero_is)).images beat image from to) left
    | inr some ↦ elim (cases_lt n file) [
      | inl past ↦ subst IsTrue ((others file (inr past)).images beat image from to) left
      | inr within ↦ images file (positive file some) within beat image from to left
    ]
  ];
  puts = ap (λ (l : LinkView). l.puts) rest.link;
  said = ap (λ (l : LinkView). l.said) rest.link;
}

pub kept_shrinks : KeptShrinks
kept_shrinks old new disk puts said = record {
  goes_on = disk.goes_on;
  images = λ file beat image from to left. subst IsTrue ((disk.stays file).images beat image from to) left;
  puts = puts;
  said = said;
}

pub shrinks_on : ShrinksOn
shrinks_on old between new one two = record {
  goes_on = goes_on-trans one.goes_on two.goes_on;
  images = λ file beat image from to left. elim (cases_lt beat between.disk.beat) [
    | inl early ↦ one.images file beat image from (omega (arith, early))
        (subst IsTrue (two.goes_on.past file beat image (omega (arith, early))) left)
    | inr late ↦ one.images file between.disk.beat image one.goes_on.later (omega arith) (two.images file beat image late to left)
  ];
  puts = two.puts ∙ one.puts;
  said = two.said ∙ one.said;
}
