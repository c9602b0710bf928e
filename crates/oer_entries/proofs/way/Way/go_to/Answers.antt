use Rattle.std.proofs.Common.{◌≡◌, ◌∙◌, ◌+◌, ap, drop, map, List, []}
use Rattle.oer_parts.specs.declared.step.Step.TheVariants.{Component}
use Rattle.oer_entries.specs.Frames.{seen}
use Rattle.oer_entries.specs.Trails.{common, grown_from, parts_of}
use Rattle.oer_entries.specs.declared.frame.Frame.{Frame}
use Rattle.oer_entries.proofs.Steps.{grown_end, grown_round, reached_init}
use Rattle.oer_entries.proofs.way.Way.go_to.Goals as goal

pub loop-step-init : goal.loop-step-init
loop-step-init c =
    let path = c.args.path.now in
    let count_is : c.shared-count.result ≡ common (drop 1 (parts_of c.args.self.now)) path + 1 =
    c.shared-count.ensures.is ∙ ap (λ (fs : List Frame). common (drop 1 (map seen fs)) path + 1) c.as_slice.ensures.value in
    record {
      way = λ T h. c.go_back.ensures.way T h;
      parts = λ T h. ap (grown_from _ [] []) c.go_back.ensures.parts ∙ reached_init path (parts_of c.args.self.now) c.shared-count.result count_is;
      octets = c.go_back.ensures.octets;
    }

pub loop-step-preserved : goal.loop-step-preserved
loop-step-preserved c =
    let inv = c.loop-step.invariant in
    record {
      way = λ T h. c.in_ok-enter.ensures.way T (inv.way T h);
      parts = λ T h.
          grown_round _ c.loop-step.step-index (Component 0) (parts_of c.loop-step.self) (parts_of c.enter.new.self) c.loop-step-test.true (c.in_ok-enter.ensures.parts T (inv.way T h))
          ∙ inv.parts T h;
      octets = c.enter.ensures.octets ∙ inv.octets;
    }

pub returns-clause-parts : goal.returns-clause-parts
returns-clause-parts c = λ T h. grown_end _ c.loop-step.step-index (parts_of c.loop-step.self) c.loop-step-test.false ∙ c.loop-step.invariant.parts T h

pub returns-clause-way : goal.returns-clause-way
returns-clause-way c = λ T h. c.loop-step.invariant.way T h
