-- The proof of `fault`. Assumes nothing.
use Rattle.std.proofs.Common.{sym, ◌∙◌, true≢false}
use Rattle.machine.specs.StartWalk.{area_of}
use Rattle.machine.proofs.start.Joined.{number_out, owned_bad, lent_bad, begin_with, walked, freed, shared, single, held, none, never}
use Rattle.machine.proofs.start.Walk.fault.Goals as goal

pub returns-then-not-numbers_fine-clause-meant : goal.returns-then-not-numbers_fine-clause-meant
returns-then-not-numbers_fine-clause-meant c =
    let s = c.args.start.now in
    let a = c.args.self.now in
    number_out s.rules.file.now s.rules.table.now.words a.codes.now s.args.now a.store.now a.work.now c.requires.coded c.requires.passed (sym c.numbers_fine.ensures ∙ c.if-not-numbers_fine.true)

pub returns-in_err-reach-clause-meant : goal.returns-in_err-reach-clause-meant
returns-in_err-reach-clause-meant c =
    let s = c.args.start.now in
    let a = c.args.self.now in
    let h = begin_with s a c.requires.coded c.requires.passed (sym c.numbers_fine.ensures ∙ c.if-not-numbers_fine.false) c.begin.ensures.kept c.begin.ensures.base c.begin.ensures.begun in
    owned_bad s a c.requires.coded c.requires.passed c.from_residual.result c.from_residual.ensures.1 h c.in_err-reach.ensures

pub returns-in_err-reach-2-clause-meant : goal.returns-in_err-reach-2-clause-meant
returns-in_err-reach-2-clause-meant c =
    let s = c.args.start.now in
    let a = c.args.self.now in
    let h = begin_with s a c.requires.coded c.requires.passed (sym c.numbers_fine.ensures ∙ c.if-not-numbers_fine.false) c.begin.ensures.kept c.begin.ensures.base c.begin.ensures.begun in
    lent_bad s a c.requires.coded c.requires.passed c.from_residual-in_err-reach-2.result c.from_residual-in_err-reach-2.ensures.1 h c.in_ok-reach.ensures c.in_err-reach-2.ensures

pub returns-then-not-used_once-clause-meant : goal.returns-then-not-used_once-clause-meant
returns-then-not-used_once-clause-meant c =
    let s = c.args.start.now in
    let a = c.args.self.now in
    let h = begin_with s a c.requires.coded c.requires.passed (sym c.numbers_fine.ensures ∙ c.if-not-numbers_fine.false) c.begin.ensures.kept c.begin.ensures.base c.begin.ensures.begun in
    let w = walked s a c.requires.coded c.requires.passed h c.in_ok-reach.ensures c.in_ok-reach-2.ensures in
    shared w (sym c.used_once.ensures ∙ c.if-not-used_once.true)

pub returns-then-used_once-clause-meant : goal.returns-then-used_once-clause-meant
returns-then-used_once-clause-meant c =
    let s = c.args.start.now in
    let a = c.args.self.now in
    let h = begin_with s a c.requires.coded c.requires.passed (sym c.numbers_fine.ensures ∙ c.if-not-numbers_fine.false) c.begin.ensures.kept c.begin.ensures.base c.begin.ensures.begun in
    let w = walked s a c.requires.coded c.requires.passed h c.in_ok-reach.ensures c.in_ok-reach-2.ensures in
    single w (sym c.used_once.ensures ∙ c.if-not-used_once.false) (sym c.used_once-2.ensures ∙ c.if-used_once.true)

pub returns-in_err-free-clause-meant : goal.returns-in_err-free-clause-meant
returns-in_err-free-clause-meant c =
    let s = c.args.start.now in
    let a = c.args.self.now in
    let h = begin_with s a c.requires.coded c.requires.passed (sym c.numbers_fine.ensures ∙ c.if-not-numbers_fine.false) c.begin.ensures.kept c.begin.ensures.base c.begin.ensures.begun in
    let w = walked s a c.requires.coded c.requires.passed h c.in_ok-reach.ensures c.in_ok-reach-2.ensures in
    let f = freed s a c.requires.coded c.requires.passed h c.in_ok-reach.ensures c.in_ok-reach-2.ensures c.in_err-free.ensures in
    absurd (true≢false (sym (never w) ∙ f.0))

pub returns-then-self-all-clause-meant : goal.returns-then-self-all-clause-meant
returns-then-self-all-clause-meant c =
    let s = c.args.start.now in
    let a = c.args.self.now in
    let h = begin_with s a c.requires.coded c.requires.passed (sym c.numbers_fine.ensures ∙ c.if-not-numbers_fine.false) c.begin.ensures.kept c.begin.ensures.base c.begin.ensures.begun in
    let w = walked s a c.requires.coded c.requires.passed h c.in_ok-reach.ensures c.in_ok-reach-2.ensures in
    let f = freed s a c.requires.coded c.requires.passed h c.in_ok-reach.ensures c.in_ok-reach-2.ensures c.in_ok-free.ensures in
    held w (sym c.used_once.ensures ∙ c.if-not-used_once.false) (sym c.used_once-2.ensures ∙ c.if-used_once.false) (area_of c.free.new.self) f.1 c.if-self-all.true

pub returns-clause-meant : goal.returns-clause-meant
returns-clause-meant c =
    let s = c.args.start.now in
    let a = c.args.self.now in
    let h = begin_with s a c.requires.coded c.requires.passed (sym c.numbers_fine.ensures ∙ c.if-not-numbers_fine.false) c.begin.ensures.kept c.begin.ensures.base c.begin.ensures.begun in
    let w = walked s a c.requires.coded c.requires.passed h c.in_ok-reach.ensures c.in_ok-reach-2.ensures in
    let f = freed s a c.requires.coded c.requires.passed h c.in_ok-reach.ensures c.in_ok-reach-2.ensures c.in_ok-free.ensures in
    none w (sym c.used_once.ensures ∙ c.if-not-used_once.false) (sym c.used_once-2.ensures ∙ c.if-used_once.false) (area_of c.free.new.self) f.1 c.if-self-all.false
