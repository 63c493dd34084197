-- The hypothesis of `in_place` can be met: P11's start is ready. Assumes nothing.
use mathlib.Core.List.{[], ◌∷◌}
use mathlib.Core.Path.{◌≡◌, refl}
use native.Mathlib.Omega.{arith}
use Rattle.meaning.specs.Syntax.{Sort, Mode, File, GV, OP, MK, TL, BR, end}
use Rattle.meaning.specs.Outcome.{ok}
use Rattle.meaning.specs.Reading.{read, header, entry, bodies, finish, signature, constructor, term, node as read_node, limits, declared, mode, sort, expect, mark, times, below}
use Rattle.meaning.specs.Ownership.{check, pass, check_bodies, check_file}
use Rattle.meaning.specs.Ownership as O
use Rattle.meaning.specs.Derivation.{Split, left, right}
use Rattle.meaning.specs.Plain.{Value, node, empty, more}
use Rattle.meaning.specs.Plain as P
use Rattle.meaning.specs.Verdict.{accepted}
use Rattle.meaning.specs.InPlace.{RunsInPlace}
use Rattle.meaning.specs.Cases.{reversal}
use Rattle.meaning.specs.Cases.{two_cells}
use Rattle.theory.proofs.Rep.{Tree, Fields, Holds, Match, next, live}
use Rattle.theory.proofs.Sim.{Once}
use Rattle.theory.proofs.Reached.{has_count}
use Rattle.theory.proofs.InPlace.{accepted_in_place}

abbrev reverse : File
reverse =
    record {
      constructors = [] ∷ (Sort.number ∷ Sort.tree ∷ []) ∷ [];
      functions = record { parameters = Mode.owned ∷ Mode.owned ∷ []; result = Sort.tree } ∷ [];
      bodies = OP 16 0 (BR 20 0 (GV 23 1) (BR 26 1 (MK 29 1 4 (2 ∷ 1 ∷ []) (TL 35 0 (3 ∷ 5 ∷ []))) end)) ∷ [];
    }

reads : accepted reversal ≡ ok reverse
unfolding accepted read header entry bodies finish signature constructor term read_node limits declared mode sort expect mark times below check_file check_bodies check O.take pass
reads = refl

abbrev shorter : Value
shorter = node 1 (more (P.number 7) (more (node 0 empty) empty))

abbrev longer : Value
longer = node 1 (more (P.number 5) (more shorter empty))

atom : Tree reverse.constructors two_cells 0 (node 0 empty) []
atom = Tree.leaf refl refl

second : Tree reverse.constructors two_cells 65537 shorter (1 ∷ [])
second = Tree.fork {w = 65537} {F' = []} refl refl refl (omega arith) (omega arith) (left Split.none) (Fields.number refl (Fields.tree Split.none atom Fields.last))

first : Tree reverse.constructors two_cells 65536 longer (0 ∷ 1 ∷ [])
first = Tree.fork {w = 65536} {F' = 1 ∷ []} refl refl refl (omega arith) (omega arith) (left (right Split.none)) (Fields.number refl (Fields.tree (left Split.none) second Fields.last))

once : Once (0 ∷ 1 ∷ [])
once c F (left (right Split.none)) h = omega (arith, has_count h)
once c F (right (left Split.none)) h = omega (arith, has_count h)
once c _ (right (right {Γ₂ = Γ₂} s)) h = elim s [ ]

pub P11_in_place : RunsInPlace reverse (65536 ∷ 0 ∷ []) two_cells
P11_in_place =
    accepted_in_place reversal reverse reads (65536 ∷ 0 ∷ []) two_cells {A = []}
    (next {v = longer} (left (left Split.none)) (live refl (Holds.owned first)) (next Split.none (live refl (Holds.owned atom)) Match.last))
    once (λ c h g. omega (arith, has_count h))
