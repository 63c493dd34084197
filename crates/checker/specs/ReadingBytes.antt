-- What one record comes to, read from the bytes: its mark, its fields, its limits, and what follows it. Assumes nothing.
use Rattle.std.specs.Prelude.{ℕ, zero, suc, ◌+◌, List, length, get_or, leb, ltb, eqb}
use Rattle.meaning.specs.Choice.{pick}
use Rattle.meaning.specs.Marks.{row_at, find_mark}
use Rattle.standing.specs.Bytes.{byte_at, mark_at, arity_in, params_in}
use Rattle.checker.specs.declared.reading.Path.{Path}
use Rattle.checker.specs.Node.{Then, Node}
use Rattle.checker.specs.Node as then
use Rattle.checker.specs.Read.{Read, Next, Fault}

-- how many slots a mark's record binds
unfoldable pub binds_of : ℕ → ℕ
binds_of m = (row_at m).binds

-- what is declared: 255 stands for nothing
unfoldable pub known_arity : List ℕ → ℕ → ℕ
known_arity d c = pick (ltb c 64) (arity_in d c) 255

unfoldable pub known_count : List ℕ → ℕ → ℕ
known_count d g = pick (ltb g 32) (params_in d g) 255

-- the byte, and the mark, at a place
unfoldable pub byte_read : List ℕ → ℕ → Read
byte_read f at = pick (leb (length f) at) (Fault 2 (length f)) (Next (get_or f at 0))

unfoldable pub mark_read : List ℕ → ℕ → Read
mark_read f at = pick (ltb (length f) (at + 2)) (Fault 2 (length f)) (Next (find_mark (mark_at f at)))

-- fields
unfoldable pub room : List ℕ → ℕ → ℕ → Read
room f at n = pick (ltb (length f) (at + n)) (Fault 2 (length f)) (Next (at + n))

unfoldable pub atom_field : List ℕ → List ℕ → ℕ → Read
atom_field f d at = pick (leb (length f) at) (Fault 2 (length f)) (pick (eqb (known_arity d (get_or f at 0)) 0) (Next (at + 1)) (Fault 4 at))

unfoldable pub make_fields : List ℕ → List ℕ → ℕ → Read
make_fields f d at =
    pick (leb (length f) at) (Fault 2 (length f))
    (pick (eqb (known_arity d (get_or f at 0)) 0) (Fault 4 at)
    (pick (ltb 4 (known_arity d (get_or f at 0))) (Fault 4 at)
    (room f (at + 1) (known_arity d (get_or f at 0) + 1))))

unfoldable pub call_fields : List ℕ → List ℕ → ℕ → Read
call_fields f d at =
    pick (leb (length f) at) (Fault 2 (length f))
    (pick (ltb 8 (known_count d (get_or f at 0))) (Fault 4 at)
    (room f (at + 1) (known_count d (get_or f at 0))))

unfoldable pub open_fields : List ℕ → ℕ → Read
open_fields f at =
    pick (leb (length f) (at + 1)) (Fault 2 (length f))
    (pick (eqb (get_or f (at + 1) 0) 0) (Fault 4 (at + 1))
    (pick (ltb 64 (get_or f (at + 1) 0)) (Fault 4 (at + 1)) (Next (at + 2))))

unfoldable pub sum_fields : List ℕ → ℕ → Read
sum_fields f at =
    pick (leb (length f) at) (Fault 2 (length f))
    (pick (ltb 3 (get_or f at 0)) (Fault 4 at) (room f (at + 1) 2))

-- the fields of the record with the mark number m, whose mark is at `at`
unfoldable pub fields_at : List ℕ → List ℕ → ℕ → ℕ → Read
fields_at f d at m =
    pick (eqb m 4) (room f (at + 2) 1)
    (pick (eqb m 5) (atom_field f d (at + 2))
    (pick (eqb m 6) (make_fields f d (at + 2))
    (pick (eqb m 7) (call_fields f d (at + 2))
    (pick (eqb m 8) (call_fields f d (at + 2))
    (pick (eqb m 9) (open_fields f (at + 2))
    (pick (eqb m 10) (open_fields f (at + 2))
    (pick (eqb m 12) (room f (at + 2) 2)
    (pick (eqb m 13) (sum_fields f (at + 2))
    (pick (eqb m 14) (room f (at + 2) 1) (Fault 3 at))))))))))

unfoldable pub follows_at : List ℕ → ℕ → ℕ → ℕ → Then
follows_at f at m next =
    pick (eqb m 4) (then.Leaf next)
    (pick (eqb m 8) (then.Leaf next)
    (pick (eqb m 9) (then.Many next (byte_at f (at + 3)) 1)
    (pick (eqb m 10) (then.Many next (byte_at f (at + 3)) 0)
    (pick (eqb m 14) (then.Two next) (then.One next)))))

-- the node
abbrev pub path : ℕ → ℕ → Path
path s k = record { slots = s; nodes = k }

abbrev pub node : Then → Path → Node
node t p = record { then = t; path = p }

-- behind the fields: the limits, and what follows
unfoldable pub limited : List ℕ → ℕ → ℕ → Path → ℕ → Node
limited f at m p next =
    pick (leb 64 p.nodes) (node (then.Fault 5 at) p)
    (pick (ltb 32 (p.slots + binds_of m)) (node (then.Fault 5 at) p)
    (node (follows_at f at m next) (path (p.slots + binds_of m) (p.nodes + 1))))

unfoldable pub after_fields : List ℕ → ℕ → ℕ → Path → Read → Node
after_fields f at m p (Next next) = limited f at m p next
after_fields f at m p (Fault x q) = node (then.Fault x q) p

unfoldable pub node_of : List ℕ → List ℕ → ℕ → Path → ℕ → Node
node_of f d at p m = after_fields f at m p (fields_at f d at m)

unfoldable pub node_at : List ℕ → List ℕ → ℕ → Path → Node
node_at f d at p = pick (ltb (length f) (at + 2)) (node (then.Fault 2 (length f)) p) (node_of f d at p (find_mark (mark_at f at)))

-- a branch's record: the slots after it
unfoldable pub more_of : ℕ → ℕ → ℕ
more_of k credit = pick (eqb k 0) 0 (k + credit)

unfoldable pub fitting : ℕ → ℕ → Read
fitting at n = pick (ltb 32 n) (Fault 5 at) (Next n)

-- (by any test `fit` of the slots after it)
unfoldable pub branch_fields_by : (ℕ → Read) → List ℕ → List ℕ → ℕ → ℕ → ℕ → Read
branch_fields_by fit f d at credit slots =
    pick (leb (length f) (at + 2)) (Fault 2 (length f))
    (pick (ltb 4 (known_arity d (get_or f (at + 2) 0))) (Fault 4 (at + 2))
    (fit (slots + more_of (known_arity d (get_or f (at + 2) 0)) credit)))

unfoldable pub branch_by : (ℕ → Read) → List ℕ → List ℕ → ℕ → ℕ → ℕ → Read
branch_by fit f d at credit slots =
    pick (ltb (length f) (at + 2)) (Fault 2 (length f))
    (pick (eqb (find_mark (mark_at f at)) 11) (branch_fields_by fit f d at credit slots) (Fault 3 at))

abbrev pub branch_at : List ℕ → List ℕ → ℕ → ℕ → ℕ → Read
branch_at f d at credit slots = branch_by (fitting at) f d at credit slots

-- ---- the header
unfoldable pub small_bytes : ℕ → List ℕ → ℕ → ℕ → Read
small_bytes zero f at top = Next at
small_bytes (suc k) f at top = pick (leb (length f) at) (Fault 2 (length f)) (pick (ltb top (get_or f at 0)) (Fault 4 at) (small_bytes k f (suc at) top))

unfoldable pub on_next : Read → (ℕ → Read) → Read
on_next (Next n) g = g n
on_next (Fault x p) g = Fault x p

-- how many bytes, and then the bytes
unfoldable pub counted_at : List ℕ → (at most top : ℕ) → Read
counted_at f at most top = pick (leb (length f) at) (Fault 2 (length f)) (pick (ltb most (get_or f at 0)) (Fault 4 at) (small_bytes (get_or f at 0) f (at + 1) top))

unfoldable pub con_at : List ℕ → ℕ → Read
con_at f at = counted_at f at 4 1

unfoldable pub fun_at : List ℕ → ℕ → Read
fun_at f at = on_next (counted_at f at 8 2) (λ n. small_bytes 1 f n 1)

-- ---- bodies
-- the mark number m at a place
unfoldable pub expect_at : List ℕ → ℕ → ℕ → Read
expect_at f at m = pick (ltb (length f) (at + 2)) (Fault 2 (length f)) (pick (eqb (find_mark (mark_at f at)) m) (Next (at + 2)) (Fault 3 at))

-- and nothing behind it
unfoldable pub finish_at : List ℕ → ℕ → Read
finish_at f at = pick (ltb at (length f)) (Fault 6 at) (Next at)

unfoldable pub end_at : List ℕ → ℕ → Read
end_at f at = on_next (expect_at f at 3) (λ n. finish_at f n)
