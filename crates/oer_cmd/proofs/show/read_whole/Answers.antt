use Rattle.std.proofs.Common.{◌∙◌}
use Rattle.oer_types.specs.Schema.{the_type}
use Rattle.oer_values.specs.ValueView.{value_of}
use Rattle.oer_cmd.proofs.Front.{alone, counted_read, counted_refused, followed, stopped, value_taken, value_untaken}
use Rattle.oer_cmd.proofs.Meeting.{left}
use Rattle.oer_cmd.proofs.show.read_whole.Goals as goal

pub returns : goal.returns
returns g c =
    let T = the_type c.args.schema.now in
    let t = c.in-Ok.ensures.taken in
    let f = counted_read T c.args.limit _ _ _ _ (value_of c.in-Ok.read.0) _ t.0 c.in-Ok.read.1 c.in-Ok.ensures.exact t.1 t.2 in
    record {
      exact = λ b is. alone T c.args.limit _ _ (value_of c.in-Ok.read.0) c.in-Ok.read.1 b f is c.in_ok-check_end.ensures.exact;
      fits = c.in-Ok.ensures.fits;
      takes = value_taken T c.args.limit 0 _ _ _ (value_of c.in-Ok.read.0) c.in-Ok.read.1 f c.in_ok-check_end.ensures.takes;
      loan = c.in_ok-check_end.ensures.loan ∙ c.in-Ok.ensures.loan;
    }

pub returns-in-Err : goal.returns-in-Err
returns-in-Err g c =
    let T = the_type c.args.schema.now in
    let f = counted_refused T c.args.limit _ _ _ _ c.in-Err.fault c.of_read.result c.of_read.ensures c.in-Err.ensures.exact in
    record {
      exact = λ b is small. stopped T c.args.limit _ _ c.of_read.result b f is small;
      fits = tt;
      takes = value_untaken T c.args.limit _ _ c.of_read.result f;
      loan = c.in-Err.ensures.loan;
    }

pub returns-in_err-check_end : goal.returns-in_err-check_end
returns-in_err-check_end g c = rw (left c.from_residual.result _ c.from_residual.ensures.1)
    (let T = the_type c.args.schema.now in
    let t = c.in-Ok.ensures.taken in
    let f = counted_read T c.args.limit _ _ _ _ (value_of c.in-Ok.read.0) _ t.0 c.in-Ok.read.1 c.in-Ok.ensures.exact t.1 t.2 in
    record {
      exact = λ b is small. followed T c.args.limit _ _ (value_of c.in-Ok.read.0) c.in-Ok.read.1 _ b f is c.in_err-check_end.ensures.exact small;
      fits = tt;
      takes = value_taken T c.args.limit _ _ _ _ (value_of c.in-Ok.read.0) c.in-Ok.read.1 f c.in_err-check_end.ensures.takes;
      loan = c.in_err-check_end.ensures.loan ∙ c.in-Ok.ensures.loan;
    })
