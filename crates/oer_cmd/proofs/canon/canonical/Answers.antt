use Rattle.std.proofs.Common.{◌∙◌, ap, sym, List, Some, ℕ}
use Rattle.oer_model.specs.Canonical.{canonical_octets}
use Rattle.oer_types.specs.Schema.{the_type}
use Rattle.oer_units.specs.Stream.{inner_of}
use Rattle.oer_cmd.specs.Expected.{value, ◌>>=◌}
use Rattle.oer_cmd.specs.Octets.{octets_of}
use Rattle.oer_cmd.proofs.Front.{alone, followed, rewritten_read, rewritten_refused, stopped, value_taken, value_untaken}
use Rattle.oer_cmd.proofs.Meeting.{left}
use Rattle.oer_cmd.proofs.canon.canonical.Goals as goal

pub returns : goal.returns
returns g c =
    let T = the_type c.args.schema.now in
    let f = rewritten_read T c.args.limit _ _ _ _ (octets_of (inner_of c.new-sink.result)) (octets_of (inner_of c.rewrite.new.sink)) c.in-Ok.taken c.in-Ok.field-0-1 _ _
    c.in-Ok.ensures.exact c.in-Ok.ensures.rewritten (ap octets_of c.new-sink.ensures.inner ∙ c.new.ensures.items) in
    record {
      exact = λ b is.
          let a = alone T c.args.limit _ _ f.0 c.in-Ok.taken b f.1 is c.in_ok-check_end.ensures.exact in
          (a.0, ap (λ o. o >>= λ v. value (canonical_octets T v)) a.1 ∙ ap (λ (l : List ℕ). value l) (sym (ap octets_of c.into_inner.ensures ∙ f.2)));
      takes = value_taken T c.args.limit 0 _ _ _ f.0 c.in-Ok.taken f.1 c.in_ok-check_end.ensures.takes;
      loan = c.in_ok-check_end.ensures.loan ∙ c.in-Ok.ensures.loan;
    }

pub returns-in-Err : goal.returns-in-Err
returns-in-Err g c =
    let T = the_type c.args.schema.now in
    let f = rewritten_refused T c.args.limit _ _ _ _ (Some (octets_of (inner_of c.new-sink.result))) (Some (octets_of (inner_of c.rewrite.new.sink))) _ _
    c.in-Err.fault c.of_rewrite.result c.of_rewrite.ensures c.in-Err.ensures.exact in
    record {
      exact = λ b is small. ap (λ o. o >>= λ v. value (canonical_octets T v)) (stopped T c.args.limit _ _ c.of_rewrite.result b f is small);
      takes = value_untaken T c.args.limit _ _ c.of_rewrite.result f;
      loan = c.in-Err.ensures.loan;
    }

pub returns-in_err-check_end : goal.returns-in_err-check_end
returns-in_err-check_end g c = rw (left c.from_residual.result _ c.from_residual.ensures.1)
    (let T = the_type c.args.schema.now in
    let f = rewritten_read T c.args.limit _ _ _ _ (octets_of (inner_of c.new-sink.result)) (octets_of (inner_of c.rewrite.new.sink)) c.in-Ok.taken c.in-Ok.field-0-1 _ _
    c.in-Ok.ensures.exact c.in-Ok.ensures.rewritten (ap octets_of c.new-sink.ensures.inner ∙ c.new.ensures.items) in
    record {
      exact = λ b is small. ap (λ o. o >>= λ v. value (canonical_octets T v)) (followed T c.args.limit _ _ f.0 c.in-Ok.taken _ b f.1 is c.in_err-check_end.ensures.exact small);
      takes = value_taken T c.args.limit _ _ _ _ f.0 c.in-Ok.taken f.1 c.in_err-check_end.ensures.takes;
      loan = c.in_err-check_end.ensures.loan ∙ c.in-Ok.ensures.loan;
    })
