-- The responses to a top-up that are made before it is recorded.
use Rattle.std.specs.Prelude.{◌≡◌, [], codes}
use Rattle.acct_desk.specs.declared.handling.TopUpAnswers.{TopUpAnswers}
use Rattle.acct_desk.specs.Responses.{added_response}
use Rattle.acct_desk_pages.specs.Responses.{error_response, result_response}
use Rattle.acct_desk_pages.specs.Responses.{unavailable_response}

-- each is the response for its result
pub record AreAnswers (answers : TopUpAnswers) : Type 0 where
  pub added : answers.added.items ≡ added_response
  pub repeated : answers.repeated.items ≡ result_response 200 (codes "repeat")
  pub differs : answers.differs.items ≡ error_response 409 [] (codes "voucher differs")
  pub limit : answers.limit.items ≡ error_response 422 [] (codes "balance limit")
  pub unavailable : answers.unavailable.items ≡ unavailable_response
