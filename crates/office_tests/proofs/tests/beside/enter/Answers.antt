use Rattle.office_tests.proofs.tests.beside.enter.Goals as goal

pub returns : goal.returns
returns g c =
    let grown = (c.enter.ensures.entered c.in_ok-served.served c.in_ok-served.was).grown in record {
      stage = grown.stage;
      memory = grown.memory;
      spare = grown.spare;
    }
