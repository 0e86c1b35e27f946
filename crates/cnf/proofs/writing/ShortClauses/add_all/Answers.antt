use Rattle.std.proofs.Common.{◌≡◌, ◌<◌, [], ◌∷◌, ◌++◌, length, get_or, take, if◌then◌else◌, sym, ap, ◌∙◌, arith}
use Rattle.std.proofs.lemmas.List.{append_assoc, take_more}
use Rattle.cnf.specs.States.{add_refusal, added}
use Rattle.cnf.specs.Writing.{write_refusal}
use Rattle.cnf.proofs.Writes.{no_err_ok, step_taken, written_more}
use Rattle.cnf.proofs.writing.ShortClauses.add_all.Goals as goal

pub loop-k-preserved : goal.loop-k-preserved
loop-k-preserved g c =
    let cs = g.F.Formula.clauses c.count-k-end.new.self in
    let st = g.S.Sink.state c.args.sink.now in
    let old = g.S.Formula.clauses c.args.sink.now in
    let lt : c.loop-k.k < length (g.F.Formula.clauses c.count-k-end.new.self) =
    omega (arith, c.loop-k-test.true, c.count-k-end.ensures.value, ap (λ s. length (g.F.Formula.clauses s)) c.count-k-end.ensures.same) in
    let here : take c.load-m.result c.load-m.new.self.buffer ≡ get_or (g.F.Formula.clauses c.count-k-end.new.self) c.loop-k.k [] =
    c.load-m.ensures.clause ∙ ap (λ s. get_or (g.F.Formula.clauses s.now) c.loop-k.k []) c.loop-k.invariant.0 in
    let none = c.add.ensures.answer ∙ (λ i. add_refusal (c.loop-k.invariant.1 i) (here i))
    ∙ step_taken st cs c.loop-k.k lt (ap (λ s. write_refusal st (g.F.Formula.clauses s)) c.count-k-end.ensures.same ∙ c.requires) in
    let ok = no_err_ok _ none in (
      c.load-m.ensures.same ∙ c.loop-k.invariant.0,
      c.add.ensures.after ∙ ap (λ b. if b then added (g.S.Sink.state c.loop-k.sink) (take c.load-m.result c.load-m.new.self.buffer) else g.S.Sink.state c.loop-k.sink) ok
          ∙ (λ i. added (c.loop-k.invariant.1 i) (here i)) ∙ written_more st cs c.loop-k.k lt,
      c.add.ensures.appended ∙ ap (λ b. if b then g.S.Formula.clauses c.loop-k.sink ++ (take c.load-m.result c.load-m.new.self.buffer ∷ []) else g.S.Formula.clauses c.loop-k.sink) ok
          ∙ (λ i. c.loop-k.invariant.2 i ++ (here i ∷ [])) ∙ append_assoc old (take c.loop-k.k cs) _ ∙ ap (λ t. old ++ t) (sym (take_more cs c.loop-k.k [] lt)),
      c.add.ensures.lent ∙ c.loop-k.invariant.3,
    )
