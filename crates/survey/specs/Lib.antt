pub mod SurveyedTables
pub mod Surveys
