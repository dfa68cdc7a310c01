use Rattle.acct_model.proofs.address.address_of.Goals as goal

pub returns-in-Err : goal.returns-in-Err
returns-in-Err c = λ octets h. c.in-Err.ensures.value (record { octets = octets }) h
