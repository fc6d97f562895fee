-- What is printed spells its condition.
use Rattle.std.proofs.Common.{◌≡◌, ℕ, true, false, List, [], ◌∷◌, ◌++◌, append_assoc, arith, refl, sym, subst, inl}
use Rattle.std.specs.Prelude.{codes}
use Rattle.std.proofs.lemmas.List.{append-nil}
use Rattle.cacao_cond.specs.declared.trees.Op.{Op}
use Rattle.cacao_cond.specs.declared.trees.Op.TheVariants.{Equal, Unequal, Less, AtMost, More, AtLeast}
use Rattle.cacao_cond.specs.declared.trees.Constant.{Constant}
use Rattle.cacao_cond.specs.declared.trees.Constant.TheVariants.{Whole, Flag, Text}
use Rattle.cacao_cond.specs.Trees.{ConstantTree, AnyTree, AllTree, PrimeTree}
use Rattle.cacao_cond.specs.Trees.ConstantTree.{last_constant, more_constants}
use Rattle.cacao_cond.specs.Trees.AnyTree.{last_part, or_else}
use Rattle.cacao_cond.specs.Trees.AllTree.{last_prime, and_also}
use Rattle.cacao_cond.specs.Trees.PrimeTree.{group, compared, among}
use Rattle.cacao_cond.specs.Grammar.{IsGap, SpellsOp, SpellsConstant, SpellsConstants, SpellsAny, SpellsAll, SpellsPrime, Spells}
use Rattle.cacao_cond.specs.Printing.{printed_op, printed_constant, printed_constants, printed, printed_all, printed_prime, IsFitConstant, AreFit, IsFit, IsFitAll, IsFitPrime}

one_space : IsGap (32 ∷ [])
one_space = (omega arith, refl)

op_spelled : (op : Op) → SpellsOp op (printed_op op)
op_spelled Equal = inl refl
op_spelled Unequal = inl refl
op_spelled Less = refl
op_spelled AtMost = refl
op_spelled More = refl
op_spelled AtLeast = refl

constant_spelled : (constant : Constant) → IsFitConstant constant → SpellsConstant constant (printed_constant constant)
constant_spelled (Whole z) fit = (fit, refl)
constant_spelled (Flag true) fit = refl
constant_spelled (Flag false) fit = refl
constant_spelled (Text word) fit = (fit, refl)

constants_spelled : (tree : ConstantTree) → AreFit tree → SpellsConstants tree (printed_constants tree)
constants_spelled (last_constant c) fit = constant_spelled c fit
constants_spelled (more_constants c more) fit =
    (printed_constant c, [], 32 ∷ [], printed_constants more, constant_spelled c fit.0, refl, refl, constants_spelled more fit.1, refl)

mutual
  any_spelled : (tree : AnyTree) → IsFit tree → SpellsAny tree (printed tree)
  any_spelled (last_part part) fit = all_spelled part fit
  any_spelled (or_else part more) fit = (printed_all part, 32 ∷ [], 32 ∷ [], printed more, all_spelled part fit.0, one_space, one_space, any_spelled more fit.1, refl)

  all_spelled : (tree : AllTree) → IsFitAll tree → SpellsAll tree (printed_all tree)
  all_spelled (last_prime prime) fit = prime_spelled prime fit
  all_spelled (and_also prime more) fit = (printed_prime prime, 32 ∷ [], 32 ∷ [], printed_all more, prime_spelled prime fit.0, one_space, one_space, all_spelled more fit.1, refl)

  prime_spelled : (tree : PrimeTree) → IsFitPrime tree → SpellsPrime tree (printed_prime tree)
  prime_spelled (group any) fit = ([], printed any, [], refl, any_spelled any fit, refl, refl)
  prime_spelled (compared name op constant) fit =
      (32 ∷ [], printed_op op, 32 ∷ [], printed_constant constant, fit.0, refl, op_spelled op, refl, constant_spelled constant fit.1, sym (append_assoc name (codes ":value") (32 ∷ (printed_op op ++ (32 ∷ printed_constant constant)))))
  prime_spelled (among name constants) fit = (
    32 ∷ [],
    32 ∷ [],
    [],
    printed_constants constants,
    [],
    fit.0,
    one_space,
    refl,
    refl,
    constants_spelled constants fit.1,
    refl,
    simp append_assoc,
  )

pub spells_printed : (tree : AnyTree) (text : List ℕ) → IsFit tree → text ≡ printed tree → Spells tree text
spells_printed tree text fit e = ([], text, [], refl, subst (SpellsAny tree) (sym e) (any_spelled tree fit), refl, sym (append-nil text))
