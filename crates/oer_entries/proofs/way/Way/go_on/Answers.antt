use Rattle.std.proofs.Common.{◌≡◌, ◌∙◌, ◌-◌, ap, arith, length, refl, sym, true, ℕ}
use Rattle.std.proofs.lemmas.Result.{on_ok_weaker}
use Rattle.oer_entries.specs.Next.{gone_on, reaches}
use Rattle.oer_entries.specs.declared.next.Next.TheVariants.{After, Here, Inside}
use Rattle.oer_entries.proofs.Steps.{back_length, on_back, on_here, on_whole}
use Rattle.oer_entries.proofs.way.Way.go_on.Goals as goal
use Rattle.oer_entries.proofs.way.Way.go_on.Goals.{in-Some, in-None, then-not-is_filled-via-then-not-is_filled, then-not-is_filled-via-else-not-is_filled+then-count-lt2}

pub returns-in-Here-clause-parts : goal.returns-in-Here-clause-parts
returns-in-Here-clause-parts c = λ T h.
    let x = c.last-frame.result.now in
    let read = c.args.self.now.end in
    sym (on_here read c.loop.self.frames.items c.last-frame.ensures.0 x Here c.last-frame.ensures.1 (sym c.in-Here.is ∙ c.next_of.ensures) refl) ∙ c.loop.invariant.parts

pub returns-in-Here-clause-way : goal.returns-in-Here-clause-way
returns-in-Here-clause-way c = λ T h. c.loop.invariant.way T h

pub returns-in-Inside-clause-parts : goal.returns-in-Inside-clause-parts
returns-in-Inside-clause-parts c = λ T h.
    let x = c.last-frame.result.now in
    let read = c.args.self.now.end in
    on_ok_weaker c.enter.result
    (λ new. new ∙ sym (on_here read c.loop.self.frames.items c.last-frame.ensures.0 x (Inside c.in-Inside.step) c.last-frame.ensures.1 (sym c.in-Inside.is
    ∙ c.next_of.ensures) refl) ∙ c.loop.invariant.parts)
    (c.enter.ensures.parts T (c.loop.invariant.way T h))

pub returns-in-Inside-clause-way : goal.returns-in-Inside-clause-way
returns-in-Inside-clause-way c = λ T h. c.enter.ensures.way T (c.loop.invariant.way T h)

pub returns-then-not-is_filled-clause-parts : goal.returns-then-not-is_filled-clause-parts
returns-then-not-is_filled-clause-parts c = λ T h.
    let x = c.last-frame.result.now in
    let frames = c.loop.self.frames in
    let read = c.args.self.now.end in
    let next = sym c.in-After.is ∙ c.next_of.ensures in
    let filled : reaches c.loop.self.end x.end ≡ c.match-frame.is_filled = (elim c.match-frame.branch [
      | in-Some w ↦ ap (reaches c.loop.self.end) w.in-Some.is ∙ sym w.is_filled-is
      | in-None w ↦ ap (reaches c.loop.self.end) w.in-None.is ∙ sym w.is_filled-is
    ]) in
    let all : reaches read x.end ≡ c.match-frame.is_filled = ap (λ (n : ℕ). reaches n x.end) (sym c.loop.invariant.end) ∙ filled in
    elim c.then-not-is_filled.branch [
      | then-not-is_filled-via-then-not-is_filled w ↦
          sym (on_here read frames.items c.last-frame.ensures.0 x After c.last-frame.ensures.1 next (all ∙ w.if-not-is_filled.true)) ∙ c.loop.invariant.parts
      | then-not-is_filled-via-else-not-is_filled+then-count-lt2 w ↦
          sym (on_whole read frames.items c.last-frame.ensures.0 x After c.last-frame.ensures.1 (omega (arith, w.if-count-lt2.true, c.len-count.ensures, frames.ok.0)) next (all
          ∙ w.if-not-is_filled.false))
          ∙ c.loop.invariant.parts
    ]

pub returns-then-not-is_filled-clause-way : goal.returns-then-not-is_filled-clause-way
returns-then-not-is_filled-clause-way c = λ T h. c.loop.invariant.way T h

pub returns-clause-parts : goal.returns-clause-parts
returns-clause-parts c = λ T h. absurd (omega (arith, c.loop.invariant.whole, c.loop.invariant.count, c.loop-test.false))

pub returns-clause-way : goal.returns-clause-way
returns-clause-way c = λ T h. c.loop.invariant.way T h

pub loop-preserved : goal.loop-preserved
loop-preserved c =
    let x = c.last-frame.result.now in
    let frames = c.loop.self.frames in
    let new = c.go_back.new.self in
    let read = c.args.self.now.end in
    let next = sym c.in-After.is ∙ c.next_of.ensures in
    let filled : reaches c.loop.self.end x.end ≡ c.match-frame.is_filled = (elim c.match-frame.branch [
      | in-Some w ↦ ap (reaches c.loop.self.end) w.in-Some.is ∙ sym w.is_filled-is
      | in-None w ↦ ap (reaches c.loop.self.end) w.in-None.is ∙ sym w.is_filled-is
    ]) in
    let all : reaches read x.end ≡ true = ap (λ (n : ℕ). reaches n x.end) (sym c.loop.invariant.end) ∙ filled ∙ c.if-not-is_filled.false in
    let size = frames.ok.0 in
    let few = c.if-count-lt2.false in
    let count_is = c.len-count.ensures in
    let k = c.len-count.result - 1 in
    let short : length new.frames.items ≡ k = back_length new.frames.items frames.items k c.go_back.ensures.parts (omega (arith, size, few, count_is)) in
    let new_size = new.frames.ok.0 in
    record {
      whole = new.has_whole;
      count = omega (arith, c.loop.invariant.count, short, size, few, count_is, new_size);
      end = c.go_back.ensures.end ∙ c.loop.invariant.end;
      way = λ T h. c.go_back.ensures.way T (c.loop.invariant.way T h);
      parts = ap (gone_on read) c.go_back.ensures.parts
          ∙ on_back read frames.items c.last-frame.ensures.0 x After k c.last-frame.ensures.1 (omega (arith, size, few, count_is)) (omega (arith, few, count_is)) next all
          ∙ c.loop.invariant.parts;
    }

pub loop-init : goal.loop-init
loop-init c = record {
  whole = c.args.self.now.has_whole;
  count = omega (arith, c.len-end.ensures);
  end = refl;
  way = λ T h. h;
  parts = refl;
}
