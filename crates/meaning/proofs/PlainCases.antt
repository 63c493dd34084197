-- The runs among the proved cases that start: on plain trees and on the machine they end as the table in specs/PlainCases says. Assumes nothing.
use Rattle.std.specs.Prelude.{map, ◌≡◌, refl}
use Rattle.meaning.specs.Choice.{pick}
use Rattle.meaning.specs.Reading.{read, header, entry, bodies, finish, signature, constructor, term, node as read_node, limits, declared, mode, sort, expect, mark, times, below}
use Rattle.meaning.specs.Ownership.{check, pass, check_bodies, check_file}
use Rattle.meaning.specs.Ownership as O
use Rattle.meaning.specs.Verdict.{accepted}
use Rattle.meaning.specs.Machine.{step, run}
use Rattle.meaning.specs.Walk.{visit, visits, drain}
use Rattle.meaning.specs.Start.{start, answer_to, first, owned_walk, all_walk, free_walk}
use Rattle.meaning.specs.Decode.{tree}
use Rattle.meaning.specs.Plain.{eval, evaluate}
use Rattle.meaning.specs.PlainCases.{started, expected, plain_run, machine_run}

pub plain_cases : (map plain_run started ≡ expected) × (map machine_run started ≡ expected)
unfolding evaluate eval tree accepted read header entry bodies finish signature constructor term read_node limits declared mode sort expect mark times below check_file check_bodies check O.take pass answer_to start first owned_walk all_walk free_walk visit visits drain pick run step
plain_cases = (refl, refl)
