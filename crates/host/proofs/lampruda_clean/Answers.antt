use Rattle.std.proofs.Common.{ap, ◌∙◌}
use Rattle.host.specs.Numbers.{cleaned_numbers_of}
use Rattle.host.proofs.lampruda_clean.Goals as goal

pub returns : goal.returns
returns c =
    let e = c.clean.ensures in
    record {
      answer = c.from.ensures ∙ ap cleaned_numbers_of e.answer;
      output = e.output;
      work32 = e.work32;
      work64 = e.work64;
      first = e.first;
      second = e.second;
      runs = e.runs;
    }
