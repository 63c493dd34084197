-- Document 01's wrong turns: the definitions answer each row of the table in specs/WrongTurns as it says. Assumes nothing.
use Rattle.std.specs.Prelude.{map, ◌≡◌, refl}
use Rattle.meaning.specs.Choice.{pick}
use Rattle.meaning.specs.Reading.{read, header, entry, bodies, finish, signature, constructor, term, node as read_node, limits, declared, mode, sort, expect, mark, times, below}
use Rattle.meaning.specs.Ownership.{check, pass, check_bodies, check_file}
use Rattle.meaning.specs.Ownership as O
use Rattle.meaning.specs.Calls.{shape, calls, calls_from, square, fill, no_calls, row, visits, start as start_set, reach, best, relax, rounds, same, settle, judge}
use Rattle.meaning.specs.Sets.{upto, first as smallest, how_many, zip}
use Rattle.meaning.specs.Verdict.{accepted}
use Rattle.meaning.specs.Verdict as checking
use Rattle.meaning.specs.Machine.{step, run}
use Rattle.meaning.specs.Walk.{visit, drain}
use Rattle.meaning.specs.Walk as W
use Rattle.meaning.specs.Start.{start, answer_to, first, owned_walk, all_walk, free_walk}
use Rattle.meaning.specs.Answers.{verdict_of, end_of, run_of}
use Rattle.meaning.specs.Cases.{told_of}
use Rattle.meaning.specs.WrongTurns.{turns}

pub all_turns : map (λ c. told_of c.asked) turns ≡ map (λ c. c.expected) turns
unfolding told_of verdict_of run_of end_of pick checking.verdict accepted read header entry bodies finish signature constructor term read_node limits declared mode sort expect mark times below check_file check_bodies check O.take pass shape calls calls_from square fill no_calls row visits start_set reach best relax rounds same settle judge upto smallest how_many zip answer_to start first owned_walk all_walk free_walk visit W.visits drain run step
all_turns = refl
