-- The cells after every step of two runs: P11, and a tree that is lent to a function that calls itself. Assumes nothing.
use Rattle.std.specs.Prelude.{[], ◌∷◌, map, ◌≡◌, refl}
use Rattle.std.proofs.Math.Option.{some}
use Rattle.meaning.specs.Outcome.{ok, then}
use Rattle.meaning.specs.Reading.{read, header, entry, bodies, finish, signature, constructor, term, node as read_node, limits, declared, mode, sort, expect, mark, times, below}
use Rattle.meaning.specs.Ownership.{check, pass, check_bodies, check_file}
use Rattle.meaning.specs.Ownership as O
use Rattle.meaning.specs.Verdict.{accepted}
use Rattle.meaning.specs.Machine.{step}
use Rattle.meaning.specs.InPlace.{after, walk}
use Rattle.meaning.specs.Cases.{reversal, two_cells}
use Rattle.meaning.specs.CellCases.{sees, seen_after, lending}

-- P11, after 0 to 8 steps
pub reversing
    : then (accepted reversal) (λ file. ok (map (seen_after file (65536 ∷ 0 ∷ []) two_cells) (0 ∷ 1 ∷ 2 ∷ 3 ∷ 4 ∷ 5 ∷ 6 ∷ 7 ∷ 8 ∷ [])))
    ≡ ok (
    sees (some (0 ∷ 1 ∷ [])) [] 1
    ∷ sees (some (1 ∷ [])) (0 ∷ []) 1
    ∷ sees (some (1 ∷ 0 ∷ [])) [] 1
    ∷ sees (some (1 ∷ 0 ∷ [])) [] 1
    ∷ sees (some (0 ∷ [])) (1 ∷ []) 1
    ∷ sees (some (1 ∷ 0 ∷ [])) [] 1
    ∷ sees (some (1 ∷ 0 ∷ [])) [] 1
    ∷ sees (some (1 ∷ 0 ∷ [])) [] 1
    ∷ sees (some (1 ∷ 0 ∷ [])) [] 1
    ∷ []
    )
unfolding after walk step accepted read header entry bodies finish signature constructor term read_node limits declared mode sort expect mark times below check_file check_bodies check O.take pass
reversing = refl

-- function 0 lends its tree to function 1, which goes down it
pub lends : (check_file lending ≡ ok tt)
    × (map (seen_after lending (65536 ∷ []) two_cells) (0 ∷ 1 ∷ 3 ∷ 5 ∷ 7 ∷ 8 ∷ 9 ∷ 10 ∷ 11 ∷ [])
    ≡ map (sees (some (0 ∷ 1 ∷ [])) []) (1 ∷ 2 ∷ 3 ∷ 4 ∷ 4 ∷ 3 ∷ 2 ∷ 1 ∷ 1 ∷ []))
unfolding after walk step check_file check_bodies check O.take pass
lends = (refl, refl)
